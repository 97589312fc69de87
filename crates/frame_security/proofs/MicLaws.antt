-- A message integrity code is four bytes.
-- Assumes nothing.
use mathlib.Core.Path.{◌≡◌}
use mathlib.Core.List.{List}
use Prim.Native.Nat.{ℕ}
use native.Mathlib.Omega.{arith}
use lib.ListN.{length}
use lib.Seq.{length-take-le}
use Rattle.base.specs.Bytes.{AreBytes}
use Rattle.base.proofs.Parts.{bytes_take}
use Rattle.cmac.specs.Rfc4493.{mac}
use Rattle.cmac.proofs.CmacLaws.{mac-long, mac-byte}
use Rattle.frame_security.specs.Mic.{mic}

pub mic-long : (key m : List ℕ) → length (mic key m) ≡ 4
unfolding mic
mic-long key m = length-take-le 4 (mac key m) (omega (arith, mac-long key m))

pub mic-byte : (key m : List ℕ) → AreBytes key → AreBytes m → AreBytes (mic key m)
unfolding mic
mic-byte key m hk hm = bytes_take 4 (mac key m) (mac-byte key m hk hm)
