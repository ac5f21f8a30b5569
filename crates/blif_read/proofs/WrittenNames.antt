-- Names in a list: where they stand, and that none stands twice.
use Rattle.std.proofs.Common.{◌≡◌, ◌≢◌, ℕ, zero, suc, ◌+◌, ◌<◌, true, false, not, cond, List, [], ◌∷◌, ◌++◌, length, map, get_or, refl, sym, ap, ap₂, subst, ◌∙◌, arith}
use Rattle.std.specs.Prelude.{bytes_eq}
use Rattle.std.specs.List.{AllByRecursion}
use Rattle.std.proofs.lemmas.Bool.{or_from, or_left, or_right}
use Rattle.std.proofs.lemmas.List.Elements.{recursion_from_All}
use Rattle.std.proofs.lemmas.List.{get_or_default, append_assoc, append-nil, length-append, get_or_append_left, get_or_at, get_or-map, length-map}
use Rattle.std.proofs.lemmas.Slice.Eq.{bytes_eq-Decides}
use Rattle.ae_base.proofs.Apart.{bytes_apart}
use Rattle.ae_net.specs.Blif.{name_of}
use Rattle.ae_net.specs.Valid.{IsDistinct}
use Rattle.ae_base.specs.Twins.{is_among}
use Rattle.ae_net.specs.Named.{place_of}

-- none is among those before it
abbrev pub AreFresh : List (List ℕ) → List (List ℕ) → Type 0
AreFresh had [] = Unit {0}
AreFresh had (w ∷ ws) = (is_among w had ≡ false) × AreFresh (had ++ w ∷ []) ws

pub bytes_same : (v : List ℕ) → bytes_eq v v ≡ true
bytes_same v = (bytes_eq-Decides v v).1 refl

pub not_among : (w : List ℕ) (ws : List (List ℕ)) → ((k : ℕ) → k < length ws → get_or ws k [] ≢ w) → is_among w ws ≡ false
not_among w [] h = refl
not_among w (v ∷ ws) h = or_from (bytes_eq w v) (is_among w ws) (bytes_apart w v (λ e. h 0 (omega arith) (sym e))) (not_among w ws (λ k lt. h (suc k) (omega (arith, lt))))

pub among_at : (ws : List (List ℕ)) (s : ℕ) → s < length ws → is_among (get_or ws s []) ws ≡ true
among_at [] s h = absurd (omega (arith, h))
among_at (v ∷ ws) zero h = or_left (bytes_eq v v) (is_among v ws) (bytes_same v)
among_at (v ∷ ws) (suc s) h = or_right (bytes_eq (get_or ws s []) v) (is_among (get_or ws s []) ws) (among_at ws s (omega (arith, h)))

pub each_among : (ws : List (List ℕ)) → AllByRecursion (λ w. is_among w ws ≡ true) ws
each_among ws = recursion_from_All (λ w. is_among w ws ≡ true) ws (λ k d lt. ap (λ w. is_among w ws) (get_or_default ws k d [] lt) ∙ among_at ws k lt)

pub fresh : (had ws : List (List ℕ)) → IsDistinct (had ++ ws) → AreFresh had ws
fresh had [] h = tt
fresh had (w ∷ ws) h = (
  not_among w had (λ k lt e. h k (length had) [] lt (omega (arith, length-append had (w ∷ ws)))
      (get_or_append_left had (w ∷ ws) [] k lt ∙ e ∙ sym (get_or_at had w ws [] (length had) refl))),
  fresh (had ++ w ∷ []) ws (subst (λ (xs : List (List ℕ)). IsDistinct xs) (sym (append_assoc had (w ∷ []) ws)) h),
)

pub fresh_split : (had xs ys : List (List ℕ)) → AreFresh had (xs ++ ys) → AreFresh had xs × AreFresh (had ++ xs) ys
fresh_split had [] ys h = (tt, subst (λ (b : List (List ℕ)). AreFresh b ys) (sym (append-nil had)) h)
fresh_split had (x ∷ xs) ys h =
    let r = fresh_split (had ++ x ∷ []) xs ys h.1 in
    ((h.0, r.0), subst (λ (b : List (List ℕ)). AreFresh b ys) (append_assoc had (x ∷ []) xs) r.1)

-- ---- places

pub place_back : (names : List (List ℕ)) (s : ℕ) → IsDistinct names → s < length names → place_of (get_or names s []) names ≡ s
place_back [] s h lt = absurd (omega (arith, lt))
place_back (v ∷ names) zero h lt = ap (λ b. cond (not b) (1 + place_of v names) 0) (bytes_same v)
place_back (v ∷ names) (suc s) h lt =
    let w = get_or names s [] in
    let apart : bytes_eq w v ≡ false = bytes_apart w v (λ e. h 0 (suc s) [] (omega arith) (omega (arith, lt)) (sym e)) in
    let rest : place_of w names ≡ s = place_back names s (λ i j d a b. h (suc i) (suc j) d (omega (arith, a)) (omega (arith, b))) (omega (arith, lt)) in
    ap (λ b. cond (not b) (1 + place_of w names) 0) apart ∙ omega (arith, rest)

pub places_back : (names : List (List ℕ)) (ss : List ℕ) → IsDistinct names → AllByRecursion (λ s. s < length names) ss → map (λ w. place_of w names) (map (name_of names) ss) ≡ ss
places_back names [] h b = refl
places_back names (s ∷ ss) h b = ap₂ (λ t ts. t ∷ ts) (place_back names s h b.0) (places_back names ss h b.1)

-- names in different places differ
pub names_apart : (names : List (List ℕ)) (s t : ℕ) → IsDistinct names → s < length names → t < length names → s ≢ t → get_or names s [] ≢ get_or names t []
names_apart names s t h a b ne e = ne (sym (place_back names s h a) ∙ ap (λ w. place_of w names) e ∙ place_back names t h b)

pub signals_apart : (names : List (List ℕ)) (ss : List ℕ) → IsDistinct names → ((k : ℕ) (d : ℕ) → k < length ss → get_or ss k d < length names) → IsDistinct ss → IsDistinct (map (name_of names) ss)
signals_apart names ss h b apart i j d lt lj =
    let j-in : j < length ss = omega (arith, length-map ss (name_of names), lj) in
    let i-in : i < length ss = omega (arith, j-in, lt) in
    λ e. names_apart names (get_or ss i 0) (get_or ss j 0) h (b i 0 i-in) (b j 0 j-in) (apart i j 0 lt j-in)
    (sym (get_or-map (name_of names) ss i 0 d i-in) ∙ e ∙ get_or-map (name_of names) ss j 0 d j-in)
