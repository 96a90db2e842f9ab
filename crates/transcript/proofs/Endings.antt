-- Laws of what follows an ending.
use mathlib.Core.Path.{◌≡◌, refl}
use Rattle.transcript.specs.State.{State}
use Rattle.transcript.specs.Perform.{Ending, goes_on, verdict, waits, outside, and_then}

-- what follows in one piece, and in two
pub join : (m : Ending) (f g h : State → Ending) → ((s : State) → f s ≡ and_then (g s) h) → and_then m f ≡ and_then (and_then m g) h
join (goes_on s) f g h e = e s
join (verdict s) f g h e = refl
join (waits k s) f g h e = refl
join (outside s) f g h e = refl

-- nothing follows
pub then-nothing : (m : Ending) → and_then m goes_on ≡ m
then-nothing (goes_on s) = refl
then-nothing (verdict s) = refl
then-nothing (waits k s) = refl
then-nothing (outside s) = refl
