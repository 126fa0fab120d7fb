pub mod Scattering
