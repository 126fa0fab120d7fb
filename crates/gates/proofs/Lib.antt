mod Shown
