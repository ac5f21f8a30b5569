-- Lines of which none is faulty, and what they say together.
use Rattle.std.proofs.Common.{◌≡◌, ℕ, suc, ◌+◌, ◌-◌, ◌<◌, ◌≤◌, Bool, true, false, cond, ◌&&◌, eqb, leb, ltb, Option, None, Ok, List, [], ◌∷◌, ◌++◌, length, map, get_or, take, drop, codes, refl, sym, ap, ap₂, subst, ◌∙◌, arith}
use Rattle.std.specs.Prelude.{slice_index}
use Rattle.std.specs.List.{concat, list_any, list_all, AllByRecursion}
use Rattle.std.specs.Option.{option_or}
use Rattle.std.proofs.lemmas.Bool.{or_from, or_parts, and_from, le-ltb, lt-leb, ne_eqb, eq-eqb}
use Rattle.std.proofs.lemmas.List.{append_assoc, append-nil, length-append, get_or_at, take_at}
use Rattle.std.proofs.lemmas.List.Elements.{All-from_recursion}
use Rattle.std.proofs.lemmas.List.Sums.{list_all-from_AllPass}
use Rattle.std.proofs.lemmas.List.Folds.{list_any-append, list_all-append}
use Rattle.ae_base.specs.declared.limits.TheConstants.{PINS, GATES}
use Rattle.ae_lex.specs.First.{first_of, first_fault, at_line}
use Rattle.ae_lex.specs.Heads.{Word, heads, is_row}
use Rattle.ae_lex.specs.Reads.{words_of}
use Rattle.ae_lex.specs.Words.{WordLine}
use Rattle.ae_lex.specs.Written.{numbered}
use Rattle.ae_net.specs.Named.{NamedGate, net_of}
use Rattle.blif_read.specs.declared.fault.NetLimits.{NetLimits}
use Rattle.blif_read.specs.declared.fault.BlifFault.{BlifFault}
use Rattle.blif_read.specs.Words.{most_lines, is_name_under, gate_name, pin_names, row_end}
use Rattle.blif_read.specs.Words as words
use Rattle.ae_base.specs.Twins.{is_among}
use Rattle.blif_read.specs.Says.{inputs_of, outputs_of, gates_of, outs, last_cover, declared_faults, names_faults, row_faults, faults, where_any, whole_fault, model_of, undefined_pin, undefined_output, placed, unplaced}
use Rattle.blif_read.specs.Build.{lines_say}
use Rattle.blif_read.proofs.Steps.{no_heads, driven_by, words_more, driven_more}
use Rattle.blif_read.proofs.WrittenNames.{AreFresh}

-- none of these lines is faulty, each after those before it
abbrev pub AreFine : NetLimits → List (List Word) → List (List Word) → Type 0
AreFine limits before [] = Unit {0}
AreFine limits before (line ∷ lines) = (first_of (faults limits None before line) ≡ None) × AreFine limits (before ++ line ∷ []) lines

pub fine_append : (limits : NetLimits) (before xs ys : List (List Word)) → AreFine limits before xs → AreFine limits (before ++ xs) ys → AreFine limits before (xs ++ ys)
fine_append limits before [] ys h k = subst (λ (b : List (List Word)). AreFine limits b ys) (append-nil before) k
fine_append limits before (x ∷ xs) ys h k = (h.0, fine_append limits (before ++ x ∷ []) xs ys h.1 (subst (λ (b : List (List Word)). AreFine limits b ys) (sym (append_assoc before (x ∷ []) xs)) k))

pub fine_lines : (limits : NetLimits) (k : ℕ) (before lines : List (List Word)) → AreFine limits before lines → first_fault (faults limits None) before (numbered k lines) ≡ None
fine_lines limits k before [] h = refl
fine_lines limits k before (line ∷ lines) h =
    ap (λ (o : Option BlifFault). option_or (at_line k o) (first_fault (faults limits None) (before ++ line ∷ []) (numbered (suc k) lines))) h.0 ∙ fine_lines limits (suc k) (before ++ line ∷ []) lines h.1

-- ---- what the lines so far said

pub record Stands (before : List (List Word)) (inputs outputs driven : List Word) : Type 0 where
  pub on : list_any (heads (codes ".end")) before ≡ false
  pub inputs_are : inputs_of before ≡ inputs
  pub outputs_are : outputs_of before ≡ outputs
  pub driven_are : outs (gates_of before) ≡ driven

-- with one more line, which has these words for each
stands_more : (before : List (List Word)) (line is os ds i o d : List Word) → Stands before i o d → heads (codes ".end") line ≡ false → cond (heads (codes ".inputs") line) (drop 1 line) [] ≡ is → cond (heads (codes ".outputs") line) (drop 1 line) [] ≡ os → driven_by line ≡ ds
    → Stands (before ++ line ∷ []) (i ++ is) (o ++ os) (d ++ ds)
stands_more before line is os ds i o d h e a b c = record {
  on = list_any-append (heads (codes ".end")) before (line ∷ []) ∙ or_from _ _ h.on (or_from (heads (codes ".end") line) false e refl);
  inputs_are = words_more (codes ".inputs") before line ∙ ap₂ (λ (x y : List Word). x ++ y) h.inputs_are a;
  outputs_are = words_more (codes ".outputs") before line ∙ ap₂ (λ (x y : List Word). x ++ y) h.outputs_are b;
  driven_are = driven_more before line ∙ ap₂ (λ (x y : List Word). x ++ y) h.driven_are c;
}

pub stands_row : (before : List (List Word)) (line i o d : List Word) → is_row line ≡ true → Stands before i o d → Stands (before ++ line ∷ []) i o d
stands_row before line i o d row h =
    let no = λ (h : Word) (dot : slice_index h 0 ≡ 46). no_heads h line row dot in
    rw (← append-nil i, ← append-nil o, ← append-nil d)
    (stands_more before line [] [] [] i o d h (no_heads (codes ".end") line row refl) (rw (no_heads (codes ".inputs") line row refl) refl) (rw (no_heads (codes ".outputs") line row refl) refl) (rw (no_heads (codes ".names") line row refl) refl))

pub stands_names : (before : List (List Word)) (ws : List Word) (w : Word) (i o d : List Word) → Stands before i o d → gate_name ws ≡ w → Stands (before ++ (codes ".names" ∷ ws) ∷ []) i o (d ++ w ∷ [])
stands_names before ws w i o d h e =
    let m = stands_more before (codes ".names" ∷ ws) [] [] (w ∷ []) i o d h refl refl refl (ap (λ (v : Word). v ∷ []) e) in
    record { on = m.on; inputs_are = m.inputs_are ∙ append-nil i; outputs_are = m.outputs_are ∙ append-nil o; driven_are = m.driven_are }

-- ---- statements before `.end`

pub names_line : (limits : NetLimits) (before : List (List Word)) (ws i o d : List Word) → Stands before i o d → first_of (faults limits None before (codes ".names" ∷ ws)) ≡ first_of (names_faults limits false i d ws)
unfolding faults
names_line limits before ws i o d h = rw (h.on, h.inputs_are, h.driven_are) refl

pub row_line : (limits : NetLimits) (before : List (List Word)) (line : List Word) → is_row line ≡ true → list_any (heads (codes ".end")) before ≡ false → first_of (faults limits None before line) ≡ first_of (row_faults (last_cover before) (concat line))
unfolding faults
row_line limits before line row on =
    rw (
      no_heads (codes ".model") line row refl,
      no_heads (codes ".inputs") line row refl,
      no_heads (codes ".outputs") line row refl,
      no_heads (codes ".names") line row refl,
      no_heads (codes ".end") line row refl,
      row,
      on,
    )
    refl

-- ---- words of `.inputs` and `.outputs`

pub declared_fine : (limits : NetLimits) (many : BlifFault) (others had ws : List Word) → AllByRecursion (λ w. is_name_under limits w ≡ true) ws → AllByRecursion (λ w. is_among w others ≡ false) ws → AreFresh had ws → length had + length ws ≤ most_lines limits
    → first_of (declared_faults limits many others [] had ws) ≡ None
declared_fine limits many others had [] names other fresh few = refl
declared_fine limits many others had (w ∷ ws) names other fresh few =
    let room : leb (most_lines limits) (length had) ≡ false = lt-leb (most_lines limits) (length had) (omega (arith, few)) in
    rw (names.0, fresh.0, other.0, room) (declared_fine limits many others (had ++ w ∷ []) ws names.1 other.1 fresh.1 (omega (arith, length-append had (w ∷ []), few)))

-- ---- `.names`

pub gate_name-snoc : (ws : List (List ℕ)) (w : List ℕ) → gate_name (ws ++ w ∷ []) ≡ w
gate_name-snoc ws w =
    let e : length (ws ++ w ∷ []) - 1 ≡ length ws = omega (arith, length-append ws (w ∷ [])) in
    ap (λ k. get_or (ws ++ w ∷ []) k []) e ∙ get_or_at ws w [] [] (length ws) refl

pub pin_names-snoc : (ws : List (List ℕ)) (w : List ℕ) → pin_names (ws ++ w ∷ []) ≡ ws
pin_names-snoc ws w =
    let e : length (ws ++ w ∷ []) - 1 ≡ length ws = omega (arith, length-append ws (w ∷ [])) in
    ap (λ k. take k (ws ++ w ∷ [])) e ∙ take_at ws (w ∷ []) (length ws) refl

pub names_fine : (limits : NetLimits) (inputs driven ws : List (List ℕ)) (w : List ℕ) → AllByRecursion (λ w. is_name_under limits w ≡ true) ws → is_name_under limits w ≡ true → length ws ≤ PINS → length driven < GATES → is_among w (inputs ++ driven) ≡ false
    → first_of (names_faults limits false inputs driven (ws ++ w ∷ [])) ≡ None
names_fine limits inputs driven ws w pins out few room fresh =
    let some : eqb (length (ws ++ w ∷ [])) 0 ≡ false = ne_eqb _ 0 (λ e. omega (arith, length-append ws (w ∷ []), e)) in
    let all : list_all (is_name_under limits) (ws ++ w ∷ []) ≡ true = list_all-append (is_name_under limits) ws (w ∷ []) ∙ and_from _ _ (list_all-from_AllPass (is_name_under limits) ws (All-from_recursion (λ v. is_name_under limits v ≡ true) ws pins)) (and_from (is_name_under limits w) true out refl) in
    let narrow : ltb PINS (length (ws ++ w ∷ []) - 1) ≡ false = le-ltb PINS (length (ws ++ w ∷ []) - 1) (omega (arith, length-append ws (w ∷ []), few)) in
    let free : leb GATES (length driven) ≡ false = lt-leb GATES (length driven) room in
    rw (some, all, narrow, free, gate_name-snoc ws w, fresh) refl

-- ---- rows

-- rows that end with this character, or none
abbrev pub EndWith : ℕ → List (List Word) → Type 0
EndWith b [] = Unit {0}
EndWith b (row ∷ rows) = row_end (concat row) ≡ b

pub end_more : (b : ℕ) (rows : List (List Word)) (row : List Word) → EndWith b rows → row_end (concat row) ≡ b → EndWith b (rows ++ row ∷ [])
end_more b [] row h e = e
end_more b (q ∷ rows) row h e = h

unmixed : (b : ℕ) (rows : List (List Word)) (r : List ℕ) → EndWith b rows → row_end r ≡ b → eqb (row_end (get_or (map concat rows) 0 r)) (row_end r) ≡ true
unmixed b [] r h e = eq-eqb (row_end r) (row_end r) refl
unmixed b (q ∷ rows) r h e = eq-eqb (row_end (concat q)) (row_end r) (h ∙ sym e)

pub row_fine : (k b : ℕ) (r : List ℕ) (ws : List Word) (rows : List (List Word)) → length ws ≡ suc k → words.is_row k r ≡ true → row_end r ≡ b → EndWith b rows → first_of (row_faults ((codes ".names" ∷ ws) ∷ rows) r) ≡ None
row_fine k b r ws rows e row end h =
    let wide : length ws - 1 ≡ k = omega (arith, e) in
    rw (wide, row, unmixed b rows r h end) refl

-- ---- lines of which none passes a test

pub where_no : (h : Word) (t : List Word → Bool) (f : BlifFault) (k : ℕ) (lines : List (List Word)) → list_any (λ line. heads h line && t (drop 1 line)) lines ≡ false → where_any h t f (numbered k lines) ≡ None
where_no h t f k [] none = refl
where_no h t f k (line ∷ lines) none =
    let p = or_parts (heads h line && t (drop 1 line)) (list_any (λ l. heads h l && t (drop 1 l)) lines) none in
    rw p.0 (where_no h t f (suc k) lines p.1)

-- lines of which all this is known say this network
pub whole : (last : ℕ) (lines : List WordLine) (said : List (List Word)) (model : Word) (inputs outputs driven : List Word) (gs : List NamedGate) → words_of lines ≡ said → inputs_of said ≡ inputs → outputs_of said ≡ outputs → gates_of said ≡ gs → outs gs ≡ driven → model_of said ≡ model
    → 0 < length inputs → 0 < length outputs → undefined_pin (inputs ++ driven) lines ≡ None → undefined_output (inputs ++ driven) lines ≡ None → placed inputs gs ≡ gs → unplaced driven lines ≡ None → lines_say last lines ≡ Ok (net_of model inputs outputs gs)
unfolding whole_fault
whole last lines said model inputs outputs driven gs w i o g d m some_in some_out reads shows order all =
    rw (w, i, o, g, m, order, d, ne_eqb (length inputs) 0 (λ e. omega (arith, e, some_in)), ne_eqb (length outputs) 0 (λ e. omega (arith, e, some_out)), reads, shows, all) refl
