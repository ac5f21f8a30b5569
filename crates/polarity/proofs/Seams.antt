-- A loop over a list that writes each element: what was passed, place by place, and the rest.
use Rattle.std.proofs.Common.{◌≡◌, ℕ, ◌+◌, ◌<◌, ◌≤◌, List, [], ◌∷◌, ◌++◌, length, map, take, drop, get_or, ap, sym, subst, ◌∙◌, arith, add-one, suc}
use Rattle.std.proofs.Math.ListN.{set}
use Rattle.std.specs.List.{AllZip}
use Rattle.std.proofs.lemmas.List.{take-append-drop, take-set, take_more_set, drop-set-lt, drop_all, drop_more, map-append, map_more, map_push, take-map, drop-map}
use Rattle.std.proofs.lemmas.List.Elements.{AllZip-push}
use Rattle.ae_base.specs.Source.{Source}
use Rattle.polarity.specs.Asking.{AreAskedInOrder}
use Rattle.polarity.specs.Search.{Advised, IsAsked}

-- as f sees them: the elements passed before and after the write at i, and the rest, which stays
pub record Seam {X Y : Type 0} (f : X → Y) (xs0 xs : List X) (i : ℕ) (x y : X) : Type 0 where
  pub before : map f (take (i + 1) xs0) ≡ map f (take i xs0) ++ f x ∷ []
  pub after : map f (take (i + 1) (set xs i y)) ≡ map f (take i xs) ++ f y ∷ []
  pub rest : drop (i + 1) (set xs i y) ≡ drop (i + 1) xs0

pub seam : {X Y : Type 0} (f : X → Y) (xs0 xs : List X) (i : ℕ) (d y : X) → length xs ≡ length xs0 → i < length xs → drop i xs ≡ drop i xs0 → Seam f xs0 xs i (get_or xs i d) y
seam f xs0 xs i d y long lt rest =
    let lt0 : i < length xs0 = omega arith in
    let both : get_or xs i d ∷ drop (i + 1) xs ≡ get_or xs0 i d ∷ drop (i + 1) xs0 = sym (drop_more xs i d lt) ∙ rest ∙ drop_more xs0 i d lt0 in
    let same : get_or xs0 i d ≡ get_or xs i d = cc in
    let next : drop (i + 1) xs ≡ drop (i + 1) xs0 = cc in
    record {
      before = map_more f xs0 i d lt0 ∙ ap (λ v. map f (take i xs0) ++ f v ∷ []) same;
      after = ap (map f) (take_more_set xs i y lt) ∙ map_push f (take i xs) y;
      rest = drop-set-lt (i + 1) xs i y (omega arith) ∙ next;
    }

pub AllZip-pass : {X Y : Type 0} (f : X → Y) (R : Y → Y → Type 0) (xs0 xs : List X) (i : ℕ) (x y : X) → Seam f xs0 xs i x y → AllZip R (map f (take i xs0)) (map f (take i xs)) → R (f x) (f y)
    → AllZip R (map f (take (i + 1) xs0)) (map f (take (i + 1) (set xs i y)))
AllZip-pass f R xs0 xs i x y s h r = rw (s.before, s.after) (AllZip-push R (map f (take i xs0)) (map f (take i xs)) (f x) (f y) h r)

AllZip-beside : {Y : Type 0} (R : Y → Y → Type 0) → ((y : Y) → R y y) → (xs ys zs : List Y) → AllZip R xs ys → AllZip R (xs ++ zs) (ys ++ zs)
AllZip-beside R r [] [] [] h = tt
AllZip-beside R r [] [] (z ∷ zs) h = (r z, AllZip-beside R r [] [] zs tt)
AllZip-beside R r [] (y ∷ ys) zs h = absurd h
AllZip-beside R r (x ∷ xs) [] zs h = absurd h
AllZip-beside R r (x ∷ xs) (y ∷ ys) zs h = (h.0, AllZip-beside R r xs ys zs h.1)

map-parts : {X Y : Type 0} (f : X → Y) (i : ℕ) (xs : List X) → map f (take i xs) ++ map f (drop i xs) ≡ map f xs
map-parts f i xs = sym (map-append f (take i xs) (drop i xs)) ∙ ap (map f) (take-append-drop i xs)

-- all places, where those up to i were passed and the rest stayed
pub AllZip-whole : {X Y : Type 0} (f : X → Y) (R : Y → Y → Type 0) → ((y : Y) → R y y) → (xs0 xs : List X) (i : ℕ) → AllZip R (map f (take i xs0)) (map f (take i xs)) → drop i xs ≡ drop i xs0
    → AllZip R (map f xs0) (map f xs)
AllZip-whole f R r xs0 xs i h rest =
    subst (λ l. AllZip R l (map f xs)) (map-parts f i xs0)
    (subst (λ l. AllZip R (map f (take i xs0) ++ map f (drop i xs0)) l) (ap (λ l. map f (take i xs) ++ map f l) (sym rest) ∙ map-parts f i xs)
    (AllZip-beside R r (map f (take i xs0)) (map f (take i xs)) (map f (drop i xs0)) h))

-- ---- in order

-- those up to i were asked, and those after i stayed
ordered : {X : Type 0} (f : X → Advised) (s : Source) (limit : ℕ) (xs0 xs : List X) (i : ℕ) → AllZip (IsAsked s limit) (map f (take i xs0)) (map f (take i xs)) → drop (i + 1) xs ≡ drop (i + 1) xs0
    → AreAskedInOrder s limit (map f xs0) (map f xs)
ordered f s limit xs0 xs i asked rest = record {
  whole = i;
  asked = rw (take-map f i xs0, take-map f i xs) asked;
  untouched = drop-map f (suc i) xs ∙ ap (map f) (rw add-one at rest) ∙ sym (drop-map f (suc i) xs0);
}

-- where the one at i was asked for some time
pub ordered_stopped : {X : Type 0} (f : X → Advised) (s : Source) (limit : ℕ) (xs0 xs : List X) (i : ℕ) (x y : X) → Seam f xs0 xs i x y → AllZip (IsAsked s limit) (map f (take i xs0)) (map f (take i xs))
    → AreAskedInOrder s limit (map f xs0) (map f (set xs i y))
ordered_stopped f s limit xs0 xs i x y at asked = ordered f s limit xs0 (set xs i y) i (subst (λ l. AllZip (IsAsked s limit) (map f (take i xs0)) (map f l)) (sym (take-set xs i y)) asked) at.rest

-- and where all were asked
pub ordered_whole : {X : Type 0} (f : X → Advised) (s : Source) (limit : ℕ) (xs0 xs : List X) (i : ℕ) → AllZip (IsAsked s limit) (map f (take i xs0)) (map f (take i xs)) → length xs ≤ i → length xs0 ≤ i
    → AreAskedInOrder s limit (map f xs0) (map f xs)
ordered_whole f s limit xs0 xs i asked all all0 = ordered f s limit xs0 xs i asked (drop_all (i + 1) xs (omega arith) ∙ sym (drop_all (i + 1) xs0 (omega arith)))
