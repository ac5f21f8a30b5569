-- The cubes of an output of a cover: what function they have, and which inputs they hold.
use Rattle.std.proofs.Common.{◌≡◌, ℕ, ◌<◌, Bool, true, false, ◌&&◌, ◌||◌, cond, List, [], ◌∷◌, map, length, refl, ap, ◌∙◌}
use Rattle.std.specs.Prelude.{filter, All}
use Rattle.std.proofs.lemmas.Bool.{lt-ltb}
use Rattle.std.proofs.lemmas.List.Elements.{All-map, All-filter, All-weaker}
use Rattle.ae_base.specs.Mask.{Set, has, first, inside}
use Rattle.ae_base.specs.Cube.{IsOver, Product, holds}
use Rattle.ae_base.proofs.Sets.{has-first, has-inside}
use Rattle.ae_cover.specs.declared.parts.Row.{Row}
use Rattle.ae_cover.specs.Cover.{Table, IsCover, IsRow, has_mark, is_one, some_row}
use Rattle.fn_store.specs.Cubes.{some_holds}
use Rattle.net_fn.specs.Cofactor.{cubes_of}

pub some_row-cubes : (rows : List Row) (o : ℕ) (x : Set) → some_holds (cubes_of o rows) x ≡ some_row is_one rows o x
some_row-cubes [] o x = refl
some_row-cubes (row ∷ rows) o x = by_mark (has_mark is_one o row) (some_row-cubes rows o x)
  where
    by_mark : (b : Bool) → some_holds (cubes_of o rows) x ≡ some_row is_one rows o x
        → some_holds (map (λ r. r.cube) (cond b (row ∷ filter (has_mark is_one o) rows) (filter (has_mark is_one o) rows))) x ≡ ((b && holds row.cube x) || some_row is_one rows o x)
    by_mark true more = ap (λ b. holds row.cube x || b) more
    by_mark false more = more

below_first : (n : ℕ) (s : Set) → ((j : ℕ) → has s j ≡ true → j < n) → inside s (first n) ≡ true
below_first n s h = has-inside s (first n) (λ j m. has-first n j ∙ lt-ltb j n (h j m))

-- the cubes of a cover's rows hold its inputs alone
pub cubes-over : (t : Table) (o : ℕ) (cubes : List Product) (n : ℕ) → IsCover t → cubes ≡ cubes_of o t.rows → n ≡ length t.inputs → All (IsOver n) cubes
cubes-over t o cubes n cover are n_is =
    rw (are, n_is)
    (All-map (IsOver (length t.inputs)) (λ row. row.cube) (filter (has_mark is_one o) t.rows)
    (All-filter (has_mark is_one o) (λ row. IsOver (length t.inputs) row.cube) t.rows
    (All-weaker (IsRow (length t.inputs) (length t.outputs)) (λ row. IsOver (length t.inputs) row.cube)
    (λ row h. (h.is_product, below_first (length t.inputs) row.cube.pos h.pos, below_first (length t.inputs) row.cube.neg h.neg)) t.rows cover.rows)))
