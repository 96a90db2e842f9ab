-- The filling of a plate's last byte, as the code tests it.
use Rattle.std.specs.Prelude.{List, Bool, ◌&&◌, length, ltb}
use Rattle.plate.specs.Plate.{zeros}

-- "Zero bits, fewer than 8, fill the last byte"
abbrev pub is_filling : List Bool → Bool
is_filling bits = ltb (length bits) 8 && zeros bits
