-- A mark as the number that stands for it. Assumes nothing.
use mathlib.Core.Path.{◌≡◌, refl}
use mathlib.Core.Bool.{Bool, true, false}
use mir.Val.{bool_byte}
use Rattle.womm.specs.Exports.{mark_of}

pub mark : (b : Bool) → bool_byte b ≡ mark_of b
mark true = refl
mark false = refl
