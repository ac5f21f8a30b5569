-- The first vectors, as sets are put together.
use Rattle.std.proofs.Common.{◌≡◌, ℕ, Bool, true, false, not, ◌&&◌, cond, List, [], ◌∷◌, refl, sym, ap, ◌∙◌, ltb, arith}
use Rattle.std.proofs.lemmas.Bool.{le-ltb, lt-ltb}
use Rattle.ae_base.specs.Cube.{Signs}
use Rattle.ae_base.specs.Mask.{members, Set, has, both, xor}
use Rattle.ae_base.specs.Lists.{without_repeats}
use Rattle.ae_base.proofs.Members.{members-filter}
use Rattle.ae_base.proofs.Sets.{inside-from, same_set, has-both, has-xor, has-where_below}
use Rattle.ae_base.proofs.Elements.{filter_range_agree}
use Rattle.ae_base.proofs.Once.{added, add_last}
use Rattle.expansion.specs.Terms.{Terms, is_used, used_inputs}
use Rattle.cascade.specs.FirstVectors.{literals_at}
use Rattle.cascade.specs.Reddy.{turned}

pub has-literals_at : (p : Signs) (used : Set) (v : Bool) (k : ℕ) → has (literals_at p used v) k ≡ (ltb k p.n && (has used k && cond (has p.plain k) v (not v)))
unfolding literals_at
has-literals_at p used v k = has-where_below p.n (λ j. has used j && cond (has p.plain j) v (not v)) k

pub all_high : (e : Terms) → both (used_inputs e) e.polarity.plain ≡ literals_at e.polarity (used_inputs e) true
unfolding used_inputs
all_high e = same_set _ _ (λ k. simp (has-both, has-literals_at, has-where_below) (grind arith))

pub all_low : (e : Terms) → xor (used_inputs e) (literals_at e.polarity (used_inputs e) true) ≡ literals_at e.polarity (used_inputs e) false
unfolding used_inputs
all_low e = same_set _ _ (λ k. simp (has-xor, has-literals_at, has-where_below) (grind arith))

-- the inputs whose literals are complemented are 1 where all literals are 0
pub turned_members : (e : Terms) → members (literals_at e.polarity (used_inputs e) false) ≡ turned e
unfolding turned used_inputs
turned_members e =
    let low : Set = literals_at e.polarity (used_inputs e) false in
    members-filter e.polarity.n low (inside-from e.polarity.n low (λ k l. has-literals_at e.polarity (used_inputs e) false k ∙ rw (le-ltb k e.polarity.n l) refl))
    ∙ filter_range_agree (has low) (λ j. is_used e j && not (has e.polarity.plain j)) 0 e.polarity.n (λ j l.
    let below : ltb j e.polarity.n ≡ true = lt-ltb j e.polarity.n (omega (arith, l)) in
    simp (has-literals_at, has-where_below, below) (grind arith))

-- ---- the first four

-- four elements, one after the other
pub four : (a b c d : Set) (one two three : List Set) → one ≡ added b (a ∷ []) → two ≡ added c one → three ≡ added d two → three ≡ without_repeats (a ∷ b ∷ c ∷ d ∷ [])
four a b c d one two three one_is two_is three_is =
    three_is ∙ ap (added d) (two_is ∙ ap (added c) (one_is ∙ sym (add_last (a ∷ []) b)) ∙ sym (add_last (a ∷ b ∷ []) c)) ∙ sym (add_last (a ∷ b ∷ c ∷ []) d)
