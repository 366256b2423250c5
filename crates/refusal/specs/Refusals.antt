-- Document 01, "Refusal numbers", and from 18 on document 02. Assumes nothing.
use Rattle.std.specs.Prelude.{ℕ}
use Rattle.refusal.specs.declared.Refusal.{Refusal}
use Rattle.refusal.specs.declared.Kind.{Kind}
use Rattle.refusal.specs.declared.Kind.TheVariants as K

abbrev pub refusal : Kind → ℕ → Refusal
refusal kind index = record { kind = kind; index = index }

-- a lent slice or a capacity has a wrong length or value
abbrev pub wrong_shape : Kind
wrong_shape = K.WrongShape

-- an object beyond the largest class
abbrev pub too_large : Kind
too_large = K.TooLarge

-- a slab, a slot or a packed location out of range
abbrev pub out_of_range : Kind
out_of_range = K.OutOfRange

-- the check differs
abbrev pub check_differs : Kind
check_differs = K.CheckDiffers

-- a stored length, or an object to be written, longer than its slot takes
abbrev pub too_long : Kind
too_long = K.TooLong

-- the version of a cookie, or of a snapshot block, is unknown
abbrev pub unknown_version : Kind
unknown_version = K.UnknownVersion

-- the fanout differs
abbrev pub fanout_differs : Kind
fanout_differs = K.FanoutDiffers

-- id 0, an id at or past capacity, one not held or, in a lookup, one without location
abbrev pub no_such_id : Kind
no_such_id = K.NoSuchId

-- the id of an earlier update of the batch, or of an earlier rebuild row
abbrev pub repeated_id : Kind
repeated_id = K.RepeatedId

-- no free number
abbrev pub none_free : Kind
none_free = K.NoneFree

-- a batch is open
abbrev pub batch_open : Kind
batch_open = K.BatchOpen

-- no batch is open
abbrev pub no_batch : Kind
no_batch = K.NoBatch

-- the tables contradict each other, or a kept batch is none
abbrev pub tables_disagree : Kind
tables_disagree = K.TablesDisagree

-- a fill ratio r or a target t out of range
abbrev pub ratio_out_of_range : Kind
ratio_out_of_range = K.RatioOutOfRange

-- over 256 updates, or ids of a page
abbrev pub too_many : Kind
too_many = K.TooMany

-- a rebuild row has an earlier row's location
abbrev pub repeated_location : Kind
repeated_location = K.RepeatedLocation

-- a cut is reported where the test says keep
abbrev pub nothing_to_cut : Kind
nothing_to_cut = K.NothingToCut

-- bytes between object and frame are not zero
abbrev pub gap_not_zero : Kind
gap_not_zero = K.GapNotZero

-- a snapshot block's number, count, padding, key or row order is wrong, or its version is not that of the block before
abbrev pub wrong_block : Kind
wrong_block = K.WrongBlock

-- chunks run past the told length, or end before it
abbrev pub wrong_end : Kind
wrong_end = K.WrongEnd

-- a key over 64 bytes
abbrev pub key_too_long : Kind
key_too_long = K.KeyTooLong

-- the ratio or the capacities differ
abbrev pub settings_differ : Kind
settings_differ = K.SettingsDiffer

-- a row of a plan is bad
abbrev pub bad_move : Kind
bad_move = K.BadMove

-- no face covers the code point
abbrev pub no_face : Kind
no_face = K.NoFace

-- a range ends before it starts, two of a face overlap, or a face id comes twice
abbrev pub bad_face : Kind
bad_face = K.BadFace

-- a total would pass 64 bits, a location names no slab, or a length is of another class
abbrev pub totals_refused : Kind
totals_refused = K.TotalsRefused

-- the number that the documents give it; an unlisted one is its own
abbrev pub number_of : Kind → ℕ
number_of K.WrongShape = 1
number_of K.TooLarge = 2
number_of K.OutOfRange = 3
number_of K.CheckDiffers = 4
number_of K.TooLong = 5
number_of K.UnknownVersion = 6
number_of K.FanoutDiffers = 7
number_of K.NoSuchId = 8
number_of K.RepeatedId = 9
number_of K.NoneFree = 10
number_of K.BatchOpen = 11
number_of K.NoBatch = 12
number_of K.TablesDisagree = 13
number_of K.RatioOutOfRange = 14
number_of K.TooMany = 15
number_of K.RepeatedLocation = 16
number_of K.NothingToCut = 17
number_of K.GapNotZero = 18
number_of K.WrongBlock = 19
number_of K.WrongEnd = 20
number_of K.KeyTooLong = 21
number_of K.SettingsDiffer = 22
number_of K.BadMove = 23
number_of K.NoFace = 24
number_of K.BadFace = 25
number_of K.TotalsRefused = 26
number_of (K.Unlisted u) = u.number
