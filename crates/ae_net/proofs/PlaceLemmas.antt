-- One more place in the list of faults, and marks.
use Rattle.std.proofs.Common.{◌≡◌, ℕ, zero, suc, ◌+◌, ◌<◌, ◌≤◌, Bool, true, false, ◌||◌, cond, List, [], ◌∷◌, ◌++◌, length, map, refl, sym, ap, ap₂, ◌∙◌, arith, append-nil, eqb, replicate, take, drop}
use Rattle.std.specs.Prelude.{filter}
use Rattle.std.specs.List.{flat_map, list_any, range_with_len}
use Rattle.std.proofs.lemmas.List.Concat.{flat_map-append}
use Rattle.std.proofs.lemmas.List.FromFn.{map-range_with_len_more, length-map-range_with_len, get_or-map-range_with_len, fill_by_all}
use Rattle.std.proofs.lemmas.List.Elements.{filter-append}
use Rattle.std.proofs.Math.Bool.{or_assoc}
use Rattle.std.proofs.Math.Seq.{take-append_seam}
use Rattle.std.proofs.lemmas.List.{map-append, get_or-replicate, length-replicate}
use Rattle.ae_base.proofs.Written.{range_more}
use Rattle.ae_net.specs.declared.net.Place.{Place}
use Rattle.ae_net.specs.declared.net.Place.TheVariants.{Stem}
use Rattle.ae_net.specs.declared.net.Fault.{Fault}
use Rattle.ae_net.specs.Faults.{is_read, is_read_by, stems, pins, ports, both_values, fault_list}
use Rattle.ae_net.specs.Marks.{Marks, mark_at}
use Rattle.ae_net.specs.Network.{Network, signals}

pub faults_more : (f : ℕ → Place) (k : ℕ) → flat_map both_values (map f (range_with_len 0 (k + 1))) ≡ flat_map both_values (map f (range_with_len 0 k)) ++ both_values (f k)
faults_more f k =
    ap (flat_map both_values) (map-range_with_len_more f 0 k k (omega arith))
    ∙ flat_map-append both_values (map f (range_with_len 0 k)) (f k ∷ [])

kept_fault : (f : ℕ → Place) (b : Bool) (k : ℕ) → flat_map both_values (map f (cond b (k ∷ []) [])) ≡ cond b (both_values (f k)) []
kept_fault f true k = refl
kept_fault f false k = refl

-- a number that may be kept
pub faults_more_kept : (f : ℕ → Place) (p : ℕ → Bool) (k : ℕ) → flat_map both_values (map f (filter p (range_with_len 0 (k + 1)))) ≡ flat_map both_values (map f (filter p (range_with_len 0 k))) ++ cond (p k) (both_values (f k)) []
faults_more_kept f p k =
    ap (λ l. flat_map both_values (map f (filter p l))) (range_more k)
    ∙ ap (λ l. flat_map both_values (map f l)) (filter-append p (range_with_len 0 k) (k ∷ []))
    ∙ ap (flat_map both_values) (map-append f (filter p (range_with_len 0 k)) (filter p (k ∷ [])))
    ∙ flat_map-append both_values (map f (filter p (range_with_len 0 k))) (map f (filter p (k ∷ [])))
    ∙ ap (λ l. flat_map both_values (map f (filter p (range_with_len 0 k))) ++ l) (kept_fault f (p k) k)

-- the places of one more number
pub faults_more_flat : (f : ℕ → List Place) (k : ℕ) → flat_map both_values (flat_map f (range_with_len 0 (k + 1))) ≡ flat_map both_values (flat_map f (range_with_len 0 k)) ++ flat_map both_values (f k)
faults_more_flat f k =
    ap (λ l. flat_map both_values (flat_map f l)) (range_more k)
    ∙ ap (flat_map both_values) (flat_map-append f (range_with_len 0 k) (k ∷ []) ∙ ap (λ l. flat_map f (range_with_len 0 k) ++ l) (append-nil (f k)))
    ∙ flat_map-append both_values (flat_map f (range_with_len 0 k)) (f k)

-- ---- marks

filter_agree_within : (p q : ℕ → Bool) (a n : ℕ) → ((s : ℕ) → a ≤ s → s < a + n → p s ≡ q s) → filter p (range_with_len a n) ≡ filter q (range_with_len a n)
filter_agree_within p q a zero h = refl
filter_agree_within p q a (suc n) h = ap₂ (λ b rest. cond b (a ∷ rest) rest) (h a (omega arith) (omega arith)) (filter_agree_within p q (a + 1) n (λ s l k. h s (omega arith) (omega arith)))

-- stems by the marks of the signals that are read
pub stems_marked : (n : Network) (marks : List Bool) → marks ≡ map (is_read n) (range_with_len 0 (signals n)) → map (λ s. Stem s) (filter (mark_at marks) (range_with_len 0 (length marks))) ≡ stems n
stems_marked n marks e =
    let long : length marks ≡ signals n = ap length e ∙ length-map-range_with_len (is_read n) 0 (signals n) in
    rw long
    (ap (map (λ s. Stem s)) (filter_agree_within (mark_at marks) (is_read n) 0 (signals n)
    (λ s l k. ap (λ m. mark_at m s) e ∙ get_or-map-range_with_len (is_read n) 0 (signals n) s s false (omega arith) (omega arith))))

-- the pins' signals, and then the outputs
pub marks_read : (n : Network) (a b c : List Bool) → Marks (is_read_by n.gates) a b → Marks (λ s. list_any (λ o. eqb o s) n.outputs) b c → Marks (is_read n) a c
marks_read n a b c p q = record {
  len = q.len ∙ p.len;
  each = λ s l. q.each s (omega (arith, p.len)) ∙ ap (λ v. v || list_any (λ o. eqb o s) n.outputs) (p.each s l) ∙ or_assoc (mark_at a s) (is_read_by n.gates s) (list_any (λ o. eqb o s) n.outputs);
}

-- which signals are read, where none was marked: the marks are written over the whole of a vector
pub read_marked : (n : Network) (len : ℕ) (a b : List Bool) → a ≡ replicate (signals n) false → len ≡ length a → Marks (is_read n) a b → take len (b ++ drop (length b) a) ≡ map (is_read n) (range_with_len 0 (signals n))
read_marked n len a b e l p =
    let long : length a ≡ signals n = ap length e ∙ length-replicate (signals n) false in
    let whole : len ≡ length b = l ∙ sym p.len in
    rw (whole, take-append_seam)
    (fill_by_all (is_read n) b (signals n) false (p.len ∙ long) (λ s l. p.each s (omega (arith, long)) ∙ ap (λ v. v || is_read n s) (ap (λ m. mark_at m s) e ∙ get_or-replicate (signals n) s false false l)))

-- the faults of the three parts, one after another
pub all_listed : (n : Network) (marks : List Bool) (s p o : List Fault) → marks ≡ map (is_read n) (range_with_len 0 (signals n)) → s ≡ flat_map both_values (map (λ s. Stem s) (filter (mark_at marks) (range_with_len 0 (length marks))))
    → p ≡ s ++ flat_map both_values (pins n) → o ≡ p ++ flat_map both_values (ports n) → o ≡ fault_list n
unfolding fault_list
all_listed n marks s p o m a b c =
    c
    ∙ ap (λ l. l ++ flat_map both_values (ports n)) (b ∙ ap (λ l. l ++ flat_map both_values (pins n)) (a ∙ ap (flat_map both_values) (stems_marked n marks m)))
    ∙ ap (λ l. l ++ flat_map both_values (ports n)) (sym (flat_map-append both_values (stems n) (pins n)))
    ∙ sym (flat_map-append both_values (stems n ++ pins n) (ports n))
