-- Marks in words of 64.
use Rattle.std.proofs.Common.{◌≡◌, ℕ, ◌+◌, ◌*◌, ◌/◌, ◌%◌, ◌^◌, ◌<◌, ◌≤◌, Bool, true, false, not, ◌&&◌, ◌||◌, inl, inr, List, length, set, refl, sym, ap, ap₂, ◌∙◌, eqb, eq-eqb, ne_eqb, arith, w64}
use Rattle.std.specs.Prelude.{slice_index, bit_and}
use Rattle.std.specs.Int.{bit_at, bit_not, trailing_zeros}
use Rattle.std.proofs.lemmas.Bool.{false≢true, cases_eq, cases_lt}
use Rattle.std.proofs.lemmas.List.{get_or-set_same, get_or-set_other, get_or_past, get_or-replicate}
use Rattle.std.specs.Prelude.{replicate}
use Rattle.std.proofs.lemmas.Simd.{length-replicate}
use Rattle.std.proofs.lemmas.Nat.Bits.{bit_at_clear_same, bit_at_clear_other}
use Rattle.ae_base.specs.Mask.{has}
use Rattle.fault_sim.specs.Marks.{is_marked, IsUnmarked, IsFirstTaken}
use Rattle.fault_sim.proofs.WordLanes.{lane-zero, lowest-set, below-lowest}

same_test : (i j m k : ℕ) → (i ≡ j → m ≡ k) → (m ≡ k → i ≡ j) → eqb m k ≡ eqb i j
same_test i j m k there back = elim (cases_eq m k) [ inl e ↦ eq-eqb m k e ∙ sym (eq-eqb i j (back e)) | inr ne ↦ ne_eqb m k ne ∙ sym (ne_eqb i j (λ e. ne (there e))) ]

-- what is marked after a word has been changed at one place
pub mark-changed : (marks : List ℕ) (w m word i j : ℕ) (f : Bool → Bool → Bool) → w < length marks → i ≡ 64 * w + m → m < 64 → ((l : ℕ) → l < 64 → has word l ≡ f (eqb l m) (has (slice_index marks w) l)) → ((b : Bool) → f false b ≡ b) → is_marked (set marks w word) j ≡ f (eqb j i) (is_marked marks j)
mark-changed marks w m word i j f within is small law other =
    elim (cases_eq (j / 64) w) [
      | inl e ↦
          ap (λ v. has (slice_index (set marks w word) v) (j % 64)) e
          ∙ ap (λ u. has u (j % 64)) (get_or-set_same marks w word 0 within)
          ∙ law (j % 64) (omega arith)
          ∙ ap₂ f (same_test j i (j % 64) m (λ h. omega (arith, h, is, small)) (λ h. omega (arith, h, is, e))) (ap (λ v. has (slice_index marks v) (j % 64)) (sym e))
      | inr ne ↦
          ap (λ u. has u (j % 64)) (get_or-set_other marks w (j / 64) word 0 ne)
          ∙ sym (other (is_marked marks j))
          ∙ ap (λ b. f b (is_marked marks j)) (sym (ne_eqb j i (λ h. ne (omega (arith, h, is, small)))))
    ]

pub lane-clear : (a m l : ℕ) → m < 64 → l < 64 → has (bit_and a (bit_not w64 (1 * 2 ^ m % 2 ^ 64))) l ≡ (not (eqb l m) && has a l)
unfolding has
lane-clear a m l lt small =
    elim (cases_eq l m) [
      | inl e ↦ rw e (ap (λ d. eqb d 1) (bit_at_clear_same w64 a m lt) ∙ sym (ap (λ b. not b && eqb (bit_at a m) 1) (eq-eqb m m refl)))
      | inr ne ↦ ap (λ d. eqb d 1) (bit_at_clear_other w64 a m lt l small ne) ∙ sym (ap (λ b. not b && eqb (bit_at a l) 1) (ne_eqb l m ne))
    ]

-- words without a mark
pub unmarked-word : (marks : List ℕ) (j : ℕ) → slice_index marks (j / 64) ≡ 0 → is_marked marks j ≡ false
unmarked-word marks j none = ap (λ u. has u (j % 64)) none ∙ lane-zero (j % 64)

pub unmarked-before : (marks : List ℕ) (from w j : ℕ) → ((j : ℕ) → j < from → is_marked marks j ≡ false) → ((v : ℕ) → from / 64 ≤ v → v < w → slice_index marks v ≡ 0) → j / 64 < w → is_marked marks j ≡ false
unmarked-before marks from w j before none lt =
    elim (cases_lt (j / 64) (from / 64)) [
      | inl less ↦ before j (omega (arith, less))
      | inr more ↦ unmarked-word marks j (none (j / 64) more lt)
    ]

pub none-marked : (marks : List ℕ) (from w : ℕ) → length marks ≤ w → ((j : ℕ) → j < from → is_marked marks j ≡ false) → ((v : ℕ) → from / 64 ≤ v → v < w → slice_index marks v ≡ 0) → IsUnmarked marks
none-marked marks from w all before none j =
    elim (cases_lt (j / 64) w) [
      | inl less ↦ unmarked-before marks from w j before none less
      | inr more ↦ unmarked-word marks j (get_or_past marks (j / 64) 0 (omega (arith, all, more)))
    ]

pub first-marked : (marks : List ℕ) (from w word i m : ℕ) → w < length marks → 0 < slice_index marks w → slice_index marks w < 2 ^ 64 → m ≡ trailing_zeros w64 (slice_index marks w) → i ≡ 64 * w + m → m < 64 → word ≡ bit_and (slice_index marks w) (bit_not w64 (1 * 2 ^ m % 2 ^ 64))
    → ((j : ℕ) → j < from → is_marked marks j ≡ false) → ((v : ℕ) → from / 64 ≤ v → v < w → slice_index marks v ≡ 0) → IsFirstTaken marks (set marks w word) i
first-marked marks from w word i m within some fits lowest is small cleared before none =
    let place : i / 64 ≡ w = omega (arith, is, small) in
    let lane : i % 64 ≡ m = omega (arith, is, small) in record {
      marked = ap₂ (λ v l. has (slice_index marks v) l) place (lane ∙ lowest) ∙ lowest-set (slice_index marks w) some fits;
      first = λ j lt. elim (cases_lt (j / 64) w) [
        | inl less ↦ unmarked-before marks from w j before none less
        | inr more ↦
            let same : j / 64 ≡ w = omega (arith, lt, is, small, more) in
            ap (λ v. has (slice_index marks v) (j % 64)) same ∙ below-lowest (slice_index marks w) some fits (j % 64) (omega (arith, lt, is, same, lowest))
      ];
      rest = λ j. mark-changed marks w m word i j (λ b c. not b && c) within is small (λ l lt. ap (λ u. has u l) cleared ∙ lane-clear (slice_index marks w) m l small lt) (λ b. refl);
    }

-- one number more is marked
pub neither : (new old : Bool) → (new || old) ≡ false → old ≡ false
neither true old none = absurd (false≢true (sym none))
neither false old none = none

pub only_new : (new old : Bool) → (new || old) ≡ true → old ≡ false → new ≡ true
only_new true old set none = refl
only_new false old set none = sym none ∙ set

-- words of 0 alone
pub no_marks : (marks : List ℕ) (n : ℕ) → marks ≡ replicate n 0 → IsUnmarked marks
no_marks marks n is i = unmarked-word marks i (ap (λ ws. slice_index ws (i / 64)) is ∙ elim (cases_lt (i / 64) n) [ inl less ↦ get_or-replicate n (i / 64) 0 0 less | inr more ↦ get_or_past (replicate n 0) (i / 64) 0 (omega (arith, more, length-replicate {A = ℕ} n 0)) ])
