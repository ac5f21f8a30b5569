-- Names that are defined.
use Rattle.std.proofs.Common.{◌≡◌, ℕ, Bool, true, false, not, cond, ◌&&◌, List, [], ◌∷◌, ◌++◌, drop, codes, Option, Some, None, refl}
use Rattle.std.specs.Prelude.{filter, option_map}
use Rattle.std.specs.List.{find, flat_map, AllByRecursion}
use Rattle.std.proofs.lemmas.Bool.{or_parts, not-false}
use Rattle.ae_base.proofs.Distinct.{each-append}
use Rattle.ae_base.specs.Twins.{is_among}
use Rattle.ae_lex.specs.Heads.{Word, heads}
use Rattle.ae_lex.specs.Reads.{words_of}
use Rattle.ae_lex.specs.Words.{WordLine}
use Rattle.ae_net.specs.Named.{NamedGate}
use Rattle.blif_read.specs.declared.fault.BlifFault.{BlifFault}
use Rattle.blif_read.specs.declared.fault.BlifFault.TheVariants as fault
use Rattle.blif_read.specs.Words.{pin_names}
use Rattle.blif_read.specs.Says.{outputs_of, gate_of, gates_of, some_unknown, where_any, undefined_pin, undefined_output, unplaced}
use Rattle.blif_read.specs.Build.{rows_of}
use Rattle.blif_read.proofs.Link.{AreKnown}

all_known : (known ws : List Word) → some_unknown known ws ≡ false → AllByRecursion (λ w. is_among w known ≡ true) ws
all_known known [] h = tt
all_known known (w ∷ ws) h =
    let p = or_parts (not (is_among w known)) (some_unknown known ws) h in
    (not-false (is_among w known) p.0, all_known known ws p.1)

where_none : (h : Word) (t : List Word → Bool) (f : BlifFault) (line : WordLine) (lines : List WordLine) → where_any h t f (line ∷ lines) ≡ None → ((heads h line.words && t (drop 1 line.words)) ≡ false) × (where_any h t f lines ≡ None)
where_none h t f line lines none = pick (heads h line.words && t (drop 1 line.words)) none
  where
    at : Option WordLine → Option (ℕ × BlifFault)
    at o = option_map (λ l. (l.number, f)) o

    pick : (b : Bool) → at (cond b (Some line) (find (λ l. heads h l.words && t (drop 1 l.words)) lines)) ≡ None → (b ≡ false) × (where_any h t f lines ≡ None)
    pick true e = absurd cc
    pick false e = (refl, e)

-- where no `.names` passes a test, each gate is as that tells
each_gate : (t : List Word → Bool) (f : BlifFault) (P : NamedGate → Type 0) → ((args : List Word) (rows : List (List ℕ)) → t args ≡ false → P (gate_of args rows)) → (lines : List WordLine) → where_any (codes ".names") t f lines ≡ None → AllByRecursion P (gates_of (words_of lines))
unfolding gates_of
each_gate t f P tells [] h = tt
each_gate t f P tells (line ∷ lines) h =
    let p = where_none (codes ".names") t f line lines h in
    pick (heads (codes ".names") line.words) p.0 (each_gate t f P tells lines p.1)
  where
    pick : (b : Bool) → (b && t (drop 1 line.words)) ≡ false → AllByRecursion P (gates_of (words_of lines)) → AllByRecursion P (cond b (gate_of (drop 1 line.words) (rows_of lines) ∷ []) [] ++ gates_of (words_of lines))
    pick true e rest = (tells (drop 1 line.words) (rows_of lines) e, rest)
    pick false e rest = rest

-- where no `.names` reads an unknown name, each pin is known
pub reads_known : (known : List Word) (lines : List WordLine) → undefined_pin known lines ≡ None → AreKnown known (gates_of (words_of lines))
reads_known known lines h = each_gate _ _ (λ g. AllByRecursion (λ pin. is_among pin known ≡ true) g.pins) (λ args rows e. all_known known (pin_names args) e) lines h

-- where no `.names` is left, each gate's name is one of these
pub names_known : (names : List Word) (lines : List WordLine) → unplaced names lines ≡ None → AllByRecursion (λ g. is_among g.out names ≡ true) (gates_of (words_of lines))
names_known names lines h = each_gate _ _ (λ g. is_among g.out names ≡ true) (λ args rows e. not-false _ e) lines h

-- where no `.outputs` shows an unknown name, each output is known
pub shows_known : (known : List Word) (lines : List WordLine) → undefined_output known lines ≡ None → AllByRecursion (λ w. is_among w known ≡ true) (outputs_of (words_of lines))
shows_known known [] h = tt
shows_known known (line ∷ lines) h =
    let p = where_none (codes ".outputs") (some_unknown known) fault.Undefined line lines h in
    pick (heads (codes ".outputs") line.words) p.0 (shows_known known lines p.1)
  where
    pick : (b : Bool) → (b && some_unknown known (drop 1 line.words)) ≡ false → AllByRecursion (λ w. is_among w known ≡ true) (outputs_of (words_of lines))
        → AllByRecursion (λ w. is_among w known ≡ true) (flat_map (drop 1) (cond b (line.words ∷ filter (heads (codes ".outputs")) (words_of lines)) (filter (heads (codes ".outputs")) (words_of lines))))
    pick true e rest = each-append (λ w. is_among w known ≡ true) (drop 1 line.words) (outputs_of (words_of lines)) (all_known known (drop 1 line.words) e) rest
    pick false e rest = rest
