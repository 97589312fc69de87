-- The cipher with each inverse taken from the list of all 256: it gives the same block, and is computed five times
-- sooner.
-- Assumes nothing.
use mathlib.Core.Path.{◌≡◌, refl, ap, ◌∙◌}
use mathlib.Core.List.{List}
use Prim.Native.Nat.{ℕ, zero, suc}
use Rattle.base.specs.Bytes.{tab, at, AreBytes}
use Rattle.base.proofs.Each.{Each, each}
use Rattle.base.proofs.Tab.{tab_ext}
use Rattle.aes.specs.Field.{affine, sub}
use Rattle.aes.proofs.Inverses.{inverses, inverse-listed}
use Rattle.aes.specs.Fips197.{sub_bytes_of, shift_rows_of, mix_columns_of, add_round_key_of, round, rounds, cipher}
use Rattle.aes.proofs.Undone.{mix_columns_of_block, add_round_key_of_block}

unfoldable pub sub_listed : List ℕ → List ℕ
sub_listed s = tab 16 (λ i. affine (at inverses (at s i)))

sub-listed : (s : List ℕ) → AreBytes s → sub_bytes_of s ≡ sub_listed s
unfolding sub_bytes_of sub sub_listed
sub-listed s h =
    tab_ext 16 (λ i. sub (at s i)) (λ i. affine (at inverses (at s i))) (λ i k. ap affine (inverse-listed (at s i) (h i)))

unfoldable pub rounds_listed : List ℕ → ℕ → List ℕ → List ℕ
rounds_listed w zero s = s
rounds_listed w (suc n) s = add_round_key_of w (suc n) (mix_columns_of (shift_rows_of (sub_listed (rounds_listed w n s))))

unfoldable pub cipher_listed : List ℕ → List ℕ → List ℕ
cipher_listed w s = add_round_key_of w 10 (shift_rows_of (sub_listed (rounds_listed w 9 (add_round_key_of w 0 s))))

rounds_byte : (w : List ℕ) (n : ℕ) (s : List ℕ) → AreBytes w → AreBytes s → AreBytes (rounds w n s)
unfolding rounds round
rounds_byte w zero s hw hs = hs
rounds_byte w (suc n) s hw hs = (add_round_key_of_block w (suc n) _ hw (mix_columns_of_block _).byte).byte

rounds-listed : (w : List ℕ) (n : ℕ) (s : List ℕ) → AreBytes w → AreBytes s → rounds w n s ≡ rounds_listed w n s
unfolding rounds round rounds_listed
rounds-listed w zero s hw hs = refl
rounds-listed w (suc n) s hw hs =
    ap (λ (t : List ℕ). add_round_key_of w (suc n) (mix_columns_of (shift_rows_of t)))
    (sub-listed (rounds w n s) (rounds_byte w n s hw hs) ∙ ap sub_listed (rounds-listed w n s hw hs))

-- a block whose cipher comes out as t by the list
pub by_list : (w s : List ℕ) {t : List ℕ} → AreBytes w → Each s → cipher_listed w s ≡ t → cipher w s ≡ t
unfolding cipher cipher_listed
by_list w s hw hs e =
    let start = (add_round_key_of_block w 0 s hw (each s hs)).byte in
    ap (λ (t : List ℕ). add_round_key_of w 10 (shift_rows_of t))
    (sub-listed _ (rounds_byte w 9 _ hw start) ∙ ap sub_listed (rounds-listed w 9 _ hw start))
    ∙ e
