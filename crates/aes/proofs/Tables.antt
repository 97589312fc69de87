-- Each entry of the two tables: the inverse in the field and the affine map give it, and the inverse table undoes the
-- table. The tables are lists by their rules, so an entry is what its rule gives. With its inverses looked up a rule is
-- quick to compute, and so is the test of a whole table against it.
-- Assumes nothing.
use mathlib.Core.Path.{◌≡◌, sym, ap, ◌∙◌}
use Prim.Native.Nat.{ℕ, ◌<◌}
use Rattle.base.specs.Bytes.{tab, at}
use Rattle.base.proofs.Tab.{at-tab, tab_ext}
use Rattle.aes.specs.Field.{inverse, affine, inv_affine, sub, inv_sub, s_box, inv_sbox}
use Rattle.aes.proofs.FieldLaws.{sub_byte, inv_affine_byte}
use Rattle.aes.proofs.Inverses.{inverses, inverse-listed, inv_sub-sub}

pub s_box_entry : (x : ℕ) → x < 256 → at s_box x ≡ affine (inverse x)
unfolding s_box sub
s_box_entry x h = at-tab 256 sub x h

pub inv_sbox_entry : (x : ℕ) → x < 256 → at inv_sbox x ≡ inverse (inv_affine x)
unfolding inv_sbox inv_sub
inv_sbox_entry x h = at-tab 256 inv_sub x h

pub table_undone : (x : ℕ) → x < 256 → at inv_sbox (at s_box x) ≡ x
unfolding s_box inv_sbox
table_undone x h =
    ap (at inv_sbox) (at-tab 256 sub x h) ∙ at-tab 256 inv_sub (sub x) (sub_byte x) ∙ inv_sub-sub x h

-- ---- the tables with their inverses looked up

pub s_box-listed : tab 256 (λ x. affine (at inverses x)) ≡ s_box
unfolding s_box sub
s_box-listed = tab_ext 256 (λ x. affine (at inverses x)) sub (λ x h. ap affine (sym (inverse-listed x h)))

pub inv_sbox-listed : tab 256 (λ x. at inverses (inv_affine x)) ≡ inv_sbox
unfolding inv_sbox inv_sub
inv_sbox-listed = tab_ext 256 (λ x. at inverses (inv_affine x)) inv_sub (λ x h. sym (inverse-listed (inv_affine x) (inv_affine_byte x)))
