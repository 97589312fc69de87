-- An array of u8 that is passed by value holds bytes: what the language says of such a value, in this crate's words.
-- Assumes nothing.
use mathlib.Core.Path.{◌≡◌}
use mathlib.Core.List.{List, [], ◌∷◌}
use Prim.Native.Nat.{ℕ, zero, suc}
use native.Mathlib.Omega.{arith}
use mir.Syntax.{w8}
use mir.Val.{Val}
use denote.Plain.{UInt}
use denote.Array.{Array, array_val, each}
use denote.Builtin.{u8}
use denote.Laws.{Is}
use denote.Shadow.{shadow}
use lib.ListN.{length}
use Rattle.base.specs.Bytes.{AreBytes}
use Rattle.frame_build.specs.GivenParts.{ByteArray}

each_byte : (xs : List ℕ) (us : List Val) → shadow (each ℕ (UInt w8).own_val xs us) → AreBytes xs
each_byte [] [] s i = omega arith
each_byte [] (u ∷ us) s i = absurd s
each_byte (x ∷ xs) [] s i = absurd s
each_byte (x ∷ xs) (u ∷ us) s zero = s.0.1
each_byte (x ∷ xs) (u ∷ us) s (suc i) = each_byte xs us s.1 i

pub array_given : (n : ℕ) (xs : List ℕ) (vs : List Val) → Is (Array (UInt w8) n) xs vs → ByteArray n xs
array_given n xs vs p = record { long = p.1.0.1; bytes = each_byte xs p.0 p.1.1 }

-- so does an array that is a field of a struct
pub field_given : (n : ℕ) (xs : List ℕ) (vs : List Val)
    → (us : List Val) × (((vs ≡ array_val us ∷ []) × (length xs ≡ n)) × shadow (each (u8).Denot (u8).own_val xs us)) → ByteArray n xs
field_given n xs vs p = record { long = p.1.0.1; bytes = each_byte xs p.0 p.1.1 }
