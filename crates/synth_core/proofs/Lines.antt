-- The lines of an ESOP in a vector file.
use Rattle.std.proofs.Common.{◌≡◌, ◌<◌, ◌≤◌, ◌+◌, ℕ, suc, List, [], ◌∷◌, ◌++◌, length, get_or, map, take, refl, sym, ap, ap₂, ◌∙◌, arith}
use Rattle.std.specs.Prelude.{All, IfOk, Result, Ok, Err}
use Rattle.ae_base.specs.declared.memory.Memory.{Memory}
use Rattle.std.specs.List.{sum_by, AllByRecursion, AllZip}
use Rattle.std.proofs.Math.Seq.{take-suc}
use Rattle.vec_text.specs.declared.file.EsopLine.{EsopLine}
use Rattle.std.proofs.lemmas.Slice.Zip.{AllZip-long}
use Rattle.std.proofs.lemmas.List.Sums.{sum_by-cons}
use Rattle.std.proofs.lemmas.List.{append_assoc, append-nil, length-append, length-map, length-take-le}
use Rattle.std.proofs.lemmas.List.Elements.{All-append, All-map, recursion_from_All}
use Rattle.ae_base.specs.Cube.{Product, Signs, IsOver}
use Rattle.ae_base.specs.Mask.{Set}
use Rattle.esop.specs.Esop.{Cubes, HasValueOf, esop_of}
use Rattle.esop.specs.Kept.{HasSameValue}
use Rattle.esop.specs.Rewriting.{rewritten_lists}
use Rattle.esop.specs.Settled.{AreSettled}
use Rattle.expansion.specs.Terms.{Terms}
use Rattle.ae_net.specs.Names.{Names}
use Rattle.cascade.specs.Shows as expansion_fits
use Rattle.factor.specs.Shows.{Fits, cube_count}
use Rattle.vec_text.specs.VectorFile.{IsCubeOf}
use Rattle.synth_core.specs.Made.{lines_from}
use Rattle.synth_core.specs.Steps.{AreRewritten}

-- each cube is over the inputs, and of an output
pub are_cubes : (n m o : ℕ) (css : List (List Product)) → AllByRecursion (All (IsOver n)) css → o + length css ≤ m → All (IsCubeOf n m) (lines_from o css)
are_cubes n m o [] over few = λ i d l. absurd (omega (arith, l))
are_cubes n m o (cs ∷ css) (here, rest) few =
    All-append (IsCubeOf n m) (map (λ c. record { output = o; cube = c }) cs) (lines_from (suc o) css)
    (All-map (IsCubeOf n m) (λ c. record { output = o; cube = c }) cs (λ i d l. record { output = omega (arith, few); cube = here i d l }))
    (are_cubes n m (suc o) css rest (omega (arith, few)))

-- as many lines as cubes
pub length-lines : (o : ℕ) (css : List (List Product)) → length (lines_from o css) ≡ sum_by length css
length-lines o [] = refl
length-lines o (cs ∷ css) =
    length-append (map (λ c. record { output = o; cube = c }) cs) (lines_from (suc o) css)
    ∙ ap₂ (λ a b. a + b) (length-map cs (λ c. record { output = o; cube = c })) (length-lines (suc o) css)
    ∙ sym (sum_by-cons length cs css)

-- with the cubes of one more output
pub lines_more : (o : ℕ) (css : List (List Product)) (cs : List Product)
    → lines_from o (css ++ cs ∷ []) ≡ lines_from o css ++ map (λ c. record { output = o + length css; cube = c }) cs
lines_more o [] cs = append-nil _ ∙ ap (λ k. map (λ c. record { output = k; cube = c }) cs) (omega arith)
lines_more o (ds ∷ css) cs =
    ap (λ rest. map (λ c. record { output = o; cube = c }) ds ++ rest) (lines_more (suc o) css cs ∙ ap (λ k. lines_from (suc o) css ++ map (λ c. record { output = k; cube = c }) cs) (omega arith))
    ∙ sym (append_assoc (map (λ c. record { output = o; cube = c }) ds) (lines_from (suc o) css) _)

pub lines_taken : (css : List (List Product)) (k o : ℕ) (cs row : List Product) (lines new : List EsopLine) → k < length css → cs ≡ get_or css k cs → row ≡ cs → o ≡ k
    → lines ≡ lines_from 0 (take k css) → new ≡ lines ++ map (λ c. record { output = o; cube = c }) row → new ≡ lines_from 0 (take (k + 1) css)
lines_taken css k o cs row lines new l at is place before now =
    let front : take (k + 1) css ≡ take k css ++ cs ∷ [] = ap (λ m. take m css) (next k) ∙ take-suc css k cs l ∙ ap (λ d. take k css ++ d ∷ []) (sym at) in
    let count : o ≡ 0 + length (take k css) = omega (arith, place, length-take-le k css (omega (arith, l))) in
    now ∙ ap₂ (λ xs ds. xs ++ map (λ c. record { output = o; cube = c }) ds) before is
    ∙ ap (λ m. lines_from 0 (take k css) ++ map (λ c. record { output = m; cube = c }) cs) count
    ∙ sym (ap (lines_from 0) front ∙ lines_more 0 (take k css) cs)
  where
    next : (n : ℕ) → n + 1 ≡ suc n
    next n = omega arith

-- no more cubes after rewriting than terms
pub fewer_in_all : (xs : List (List Set)) (ys zs : List (List Product)) → AllZip (λ ts cs. length cs ≡ length ts) xs ys → AllZip (λ cs ds. length ds ≤ length cs) ys zs → sum_by length zs ≤ sum_by length xs
fewer_in_all [] [] [] a b = omega arith
fewer_in_all [] [] (z ∷ zs) a b = absurd b
fewer_in_all [] (y ∷ ys) zs a b = absurd a
fewer_in_all (x ∷ xs) [] zs a b = absurd a
fewer_in_all (x ∷ xs) (y ∷ ys) [] a b = absurd b
fewer_in_all (x ∷ xs) (y ∷ ys) (z ∷ zs) a b = omega (arith, a.0, b.0, fewer_in_all xs ys zs a.1 b.1, sum_by-cons length x xs, sum_by-cons length z zs)

-- the values of the terms through rewriting
pub values_of : (p : Signs) (xs : List (List Set)) (ys zs : List (List Product)) → AllZip (HasValueOf p) xs ys → AllZip HasSameValue ys zs → AllZip (HasValueOf p) xs zs
values_of p [] [] [] a b = tt
values_of p [] [] (z ∷ zs) a b = absurd b
values_of p [] (y ∷ ys) zs a b = absurd a
values_of p (x ∷ xs) [] zs a b = absurd a
values_of p (x ∷ xs) (y ∷ ys) [] a b = absurd b
values_of p (x ∷ xs) (y ∷ ys) (z ∷ zs) a b = ((λ t. b.0 t ∙ a.0 t), values_of p xs ys zs a.1 b.1)

pub are_rewritten : (e : Terms) (made cubes : Cubes) → made ≡ esop_of e → AllZip (HasValueOf e.polarity) e.outs made.outs → AllZip (λ ts cs. length cs ≡ length ts) e.outs made.outs
    → cubes ≡ rewritten_lists made → AllZip HasSameValue made.outs cubes.outs → AllZip (λ cs ds. length ds ≤ length cs) made.outs cubes.outs → AreSettled cubes → AreRewritten e cubes
are_rewritten e made cubes is values count rewritten same fewer settled = record {
  are = rewritten ∙ ap rewritten_lists is;
  settled = settled;
  values = values_of e.polarity e.outs made.outs cubes.outs values same;
  few = fewer_in_all e.outs made.outs cubes.outs count fewer;
  inputs = ap (λ c. c.n) rewritten ∙ ap (λ c. c.n) is;
}

pub rewritten_result : (e : Terms) (made : Cubes) → made ≡ esop_of e → AllZip (HasValueOf e.polarity) e.outs made.outs → AllZip (λ ts cs. length cs ≡ length ts) e.outs made.outs
    → (r : Result Cubes Memory) → IfOk r (λ cubes. cubes ≡ rewritten_lists made) → IfOk r (λ cubes. AllZip HasSameValue made.outs cubes.outs)
    → IfOk r (λ cubes. AllZip (λ cs ds. length ds ≤ length cs) made.outs cubes.outs) → IfOk r AreSettled → IfOk r (AreRewritten e)
rewritten_result e made is values count (Ok cubes) lists same fewer settled = are_rewritten e made cubes is values count lists same fewer settled
rewritten_result e made is values count (Err m) lists same fewer settled = tt

-- ---- the names

-- the cubes fit the names that the expansions fit
pub cubes_fit : (names : Names) (e : Terms) (cubes : Cubes) → expansion_fits.Fits names e → AreRewritten e cubes → Fits names cubes
cubes_fit names e cubes fits is = record { inputs = is.inputs ∙ fits.inputs; outputs = AllZip-long (HasValueOf e.polarity) e.outs cubes.outs is.values ∙ fits.outputs }
