-- The number and the layer of each refusal, and how a fault is shown.
use Rattle.std.specs.Prelude.{ℕ, List, ◌∷◌, ◌++◌, decimal}
use Rattle.model.specs.declared.fault.Fault.{Fault}
use Rattle.model.specs.declared.fault.Layer.{Layer}
use Rattle.model.specs.declared.fault.Layer.TheVariants.{Reading, Checking, Building, Asking}
use Rattle.model.specs.declared.fault.Refusal.{Refusal}
use Rattle.model.specs.declared.fault.Refusal.TheVariants.{TextTooLong, BadByte, BadHeading, WrongVersion, TooFewNameCells, TooManyBrackets, NoForm, UnknownName, NamedTwice, SheetTooLarge, TooManyFacts, NetTooLarge, BadGate, BadConstant, BadOutput, StoreFull, BadRoot, BadAssignment, ListTooShort}

abbrev pub number_of : Refusal → ℕ
number_of TextTooLong = 1
number_of BadByte = 2
number_of BadHeading = 3
number_of WrongVersion = 4
number_of TooFewNameCells = 5
number_of TooManyBrackets = 6
number_of NoForm = 7
number_of UnknownName = 8
number_of NamedTwice = 9
number_of SheetTooLarge = 10
number_of TooManyFacts = 11
number_of NetTooLarge = 12
number_of BadGate = 13
number_of BadConstant = 14
number_of BadOutput = 15
number_of StoreFull = 16
number_of BadRoot = 17
number_of BadAssignment = 18
number_of ListTooShort = 19

-- the number of each layer
abbrev pub layer_number : Layer → ℕ
layer_number Reading = 1
layer_number Checking = 2
layer_number Building = 3
layer_number Asking = 4

-- the number of the layer that refuses: 1 reading, 2 checking a net, 3 building, 4 asking about a diagram
abbrev pub layer_of : Refusal → ℕ
layer_of TextTooLong = 1
layer_of BadByte = 1
layer_of BadHeading = 1
layer_of WrongVersion = 1
layer_of TooFewNameCells = 1
layer_of TooManyBrackets = 1
layer_of NoForm = 1
layer_of UnknownName = 1
layer_of NamedTwice = 1
layer_of SheetTooLarge = 1
layer_of TooManyFacts = 1
layer_of NetTooLarge = 2
layer_of BadGate = 2
layer_of BadConstant = 2
layer_of BadOutput = 2
layer_of StoreFull = 3
layer_of BadRoot = 4
layer_of BadAssignment = 4
layer_of ListTooShort = 4

-- the refusal at a place
abbrev pub fault : Refusal → ℕ → Fault
fault refusal place = record { refusal = refusal; place = place }

-- a fault as it is shown: the refusal's number, its layer and the place
abbrev pub fault_text : Fault → List ℕ
fault_text f = decimal (number_of f.refusal) ++ 32 ∷ (decimal (layer_of f.refusal) ++ 32 ∷ decimal f.place)
