-- The network of a whole text.
use Rattle.std.proofs.Common.{◌≡◌, ◌≢◌, cond, not, append-nil, append_assoc, ℕ, ◌+◌, ◌-◌, ◌<◌, ◌≤◌, ◌^◌, Bool, true, false, eqb, ◌||◌, Option, Some, None, Result, Ok, Err, List, [], ◌∷◌, ◌++◌, length, map, get_or, drop, All, refl, sym, ap, ap₂, subst, ◌∙◌, arith, inl, inr, length-append}
use Rattle.std.specs.Prelude.{bytes_eq, filter, position, is_none, is_some, unwrap_or, slice_get, slice_index_or, codes}
use Rattle.std.specs.List.{find, flat_map, AllByRecursion}
use Rattle.std.specs.Option.{option_or, option_map}
use Rattle.std.proofs.lemmas.Bool.{cases_Bool, cases_lt, cond-true, cond-false, lt-ltb, le-ltb, eq-eqb, ne_eqb, false≢true, both_ways, not-true, or_left, or_right}
use Rattle.std.proofs.lemmas.List.{length-map, length-take-le, map-append, get_or-map, get_or_default, drop_more}
use Rattle.std.proofs.lemmas.List.Elements.{All-append, All-filter, All-weaker, All-from_recursion, filter_passes, recursion_from_All}
use Rattle.std.proofs.lemmas.List.Folds.{list_any_none}
use Rattle.std.proofs.lemmas.List.Kept.{AllPairs-filter}
use Rattle.std.proofs.lemmas.Slice.Eq.{bytes_eq-Decides}
use Rattle.ae_base.specs.Cube.{Product}
use Rattle.ae_base.specs.Name.{is_name}
use Rattle.ae_base.specs.Twins.{is_among}
use Rattle.ae_base.specs.declared.limits.TheConstants.{PINS, GATES}
use Rattle.ae_base.proofs.Apart.{distinct_append}
use Rattle.ae_lex.specs.First.{first_of, first_fault, at_line, judged}
use Rattle.ae_lex.specs.Heads.{Word, heads}
use Rattle.ae_lex.specs.Reads.{words_of}
use Rattle.ae_lex.specs.Words.{WordLine}
use Rattle.ae_net.specs.declared.net.Gate.{Gate}
use Rattle.ae_net.specs.Named.{NamedGate, net_of, place_of}
use Rattle.ae_net.specs.Named.{gate_of as gate_in}
use Rattle.ae_net.specs.Network.{Network}
use Rattle.ae_net.specs.Valid.{IsDistinct, IsValid}
use Rattle.blif_order.specs.Order as by_place
use Rattle.blif_read.specs.declared.draft.Draft.{Draft}
use Rattle.ae_lex.specs.declared.errors.TextErr.{TextErr}
use Rattle.ae_lex.specs.declared.errors.TextErr.TheVariants as errors
use Rattle.blif_read.specs.declared.fault.BlifFault.{BlifFault}
use Rattle.blif_read.specs.declared.fault.BlifFault.TheVariants as fault
use Rattle.blif_read.specs.declared.fault.NetLimits.{NetLimits}
use Rattle.blif_read.specs.declared.seen.Seen.{Seen}
use Rattle.blif_read.specs.Build.{rank_in, AreSignals, AreFaultless, AreDrafted, ArePart, AreBuildable, ArePorts, IsPlan, rows_of, row_cube, is_on, front, gates_among, renumbered, built_at, draft_at, shown_by, idle, zero_gate, drawn, declared_in, placed_net, lines_say, part_says}
use Rattle.ae_lex.specs.Reads.{Gives}
use Rattle.blif_read.specs.Says.{Declared, inputs_in, outputs_in, model_of, gate_of, gates_of, outs, placed, faults, most_gates, undefined_pin, undefined_output, unplaced, whole_fault, model_says}
use Rattle.blif_read.specs.SourceSays.{constant_0, part_fault, part_gates}
use Rattle.blif_read.specs.Seen as spec
use Rattle.blif_read.specs.Seen.{Tells}
use Rattle.blif_read.specs.Words.{is_name_under}
use Rattle.blif_read.proofs.Drafts.{AreOf, drafts_are, pins_by, gate_by, number_by}
use Rattle.blif_read.proofs.Gates.{IsFit, gates_fit}
use Rattle.blif_read.proofs.Known.{reads_known, shows_known, names_known}
use Rattle.blif_read.proofs.Link.{gate_at, blank, out_at, AreKnown, known_at, waits_of, needs_of, one_order}
use Rattle.blif_read.proofs.Network.{IsFine, ArePlaced, AreParts, IsIdle, few_lines, are_placed, placed_each, outs_with, zeros_placed, is_valid}
use Rattle.blif_read.proofs.Placed.{order_below, order_short, AreRanks, ranks_below, left, one_left, none_left, renumber_same}
use Rattle.blif_read.proofs.Places.{place_bound, AllBelow}
use Rattle.blif_read.proofs.Idle.{few_kept}
use Rattle.blif_read.proofs.Sound.{IsSound, SeenIsSound, sound_all}
use Rattle.blif_read.proofs.Steps.{among_both}
use Rattle.blif_read.proofs.Tables.{place_of-append}
use Rattle.blif_read.proofs.Words.{name_under}
use Rattle.blif_read.proofs.WrittenNames.{fresh, among_at}

-- the gates of lines, in file order
abbrev pub gates : List WordLine → List NamedGate
gates lines = gates_of (words_of lines)

-- ---- lists

abbrev in_order : List NamedGate → List ℕ → List NamedGate
in_order cs order = map (gate_at cs) order

map_map : {X Y Z : Type 0} (g : Y → Z) (f : X → Y) (xs : List X) → map (λ x. g (f x)) xs ≡ map g (map f xs)
map_map g f [] = refl
map_map g f (x ∷ xs) = ap (λ zs. g (f x) ∷ zs) (map_map g f xs)

-- what holds of the one list's elements holds of the other's, where they have equal images
all_across : {X Y Z : Type 0} (f : X → Z) (g : Y → Z) (Q : Z → Type 0) (xs : List X) (ys : List Y) → map f xs ≡ map g ys → AllByRecursion (λ y. Q (g y)) ys → AllByRecursion (λ x. Q (f x)) xs
all_across f g Q [] ys e h = tt
all_across f g Q (x ∷ xs) [] e h = absurd cc
all_across f g Q (x ∷ xs) (y ∷ ys) e h =
    let here : f x ≡ g y = cc in
    let rest : map f xs ≡ map g ys = cc in
    (subst Q (sym here) h.0, all_across f g Q xs ys rest h.1)

same_along : {X Y : Type 0} (P : X → Type 0) (f g : X → Y) (xs : List X) → ((x : X) → P x → f x ≡ g x) → AllByRecursion P xs → map f xs ≡ map g xs
same_along P f g [] same h = refl
same_along P f g (x ∷ xs) same h = ap₂ (λ y ys. y ∷ ys) (same x h.0) (same_along P f g xs same h.1)

-- a gate and a network of these parts
abbrev gate : List ℕ → List ℕ → List Product → Bool → Gate
gate out pins rows on = record { out = out; pins = pins; rows = rows; on = on }

abbrev network : List ℕ → List (List ℕ) → List ℕ → List Gate → Network
network model inputs outputs gates = record { model = model; inputs = inputs; outputs = outputs; gates = gates }

-- ---- what is seen

inputs_seen : (model : Option Declared) (ls : List (List Word)) → (spec.seen model ls).inputs ≡ inputs_in model ls
unfolding spec.seen
inputs_seen model ls = refl

outputs_seen : (model : Option Declared) (ls : List (List Word)) → (spec.seen model ls).outputs ≡ outputs_in model ls
unfolding spec.seen
outputs_seen model ls = refl

driven_seen : (model : Option Declared) (ls : List (List Word)) → (spec.seen model ls).driven ≡ outs (gates_of ls)
unfolding spec.seen
driven_seen model ls = refl

in_part_seen : (model : Option Declared) (ls : List (List Word)) → (spec.seen model ls).in_part ≡ is_some model
unfolding spec.seen
in_part_seen model ls = refl

model_seen : (model : Option Declared) (ls : List (List Word)) → unwrap_or (spec.seen model ls).model (codes "unnamed") ≡ model_of ls
unfolding spec.seen
model_seen model ls = first (flat_map (drop 1) (filter (heads (codes ".model")) ls))
  where
    first : (ws : List Word) → unwrap_or (slice_get ws 0) (codes "unnamed") ≡ slice_index_or ws 0 (codes "unnamed")
    first [] = refl
    first (w ∷ ws) = refl

pub inputs_are : {model : Option Declared} (lines : List WordLine) (seen : Seen) → AreFaultless model lines seen → seen.inputs ≡ inputs_in model (words_of lines)
inputs_are {model = m} lines seen f = ap (λ (s : Seen). s.inputs) f.seen_is ∙ inputs_seen m (words_of lines)

pub outputs_are : {model : Option Declared} (lines : List WordLine) (seen : Seen) → AreFaultless model lines seen → seen.outputs ≡ outputs_in model (words_of lines)
outputs_are {model = m} lines seen f = ap (λ (s : Seen). s.outputs) f.seen_is ∙ outputs_seen m (words_of lines)

outs_are : {model : Option Declared} (lines : List WordLine) (seen : Seen) → AreFaultless model lines seen → outs (gates lines) ≡ seen.driven
outs_are {model = m} lines seen f = sym (ap (λ (s : Seen). s.driven) f.seen_is ∙ driven_seen m (words_of lines))

pub model_is : {model : Option Declared} (lines : List WordLine) (seen : Seen) → AreFaultless model lines seen → unwrap_or seen.model (codes "unnamed") ≡ model_of (words_of lines)
model_is {model = m} lines seen f = ap (λ (s : Seen). unwrap_or s.model (codes "unnamed")) f.seen_is ∙ model_seen m (words_of lines)

sound_is : {model : Option Declared} (lines : List WordLine) (seen : Seen) (f : AreFaultless model lines seen) → IsSound f.limits (is_some model) seen.inputs seen.outputs seen.driven
sound_is {model = m} lines seen f =
    let at : seen.in_part ≡ is_some m = ap (λ (s : Seen). s.in_part) f.seen_is ∙ in_part_seen m (words_of lines) in
    subst (λ (b : Bool). IsSound f.limits b seen.inputs seen.outputs seen.driven) at (subst (SeenIsSound f.limits) (sym f.seen_is) (sound_all f.limits m lines f.of f.none))

-- so many `.names` are few enough
few_gates : (b : Bool) → most_gates b ≤ GATES
few_gates true = omega arith
few_gates false = omega arith

few_driven : {model : Option Declared} (lines : List WordLine) (seen : Seen) → AreFaultless model lines seen → length seen.driven ≤ GATES
few_driven {model = m} lines seen f = omega (arith, (sound_is lines seen f).driven.few, few_gates (is_some m))

pub signals_are : {model : Option Declared} (lines : List WordLine) (seen : Seen) → AreFaultless model lines seen → AreSignals (seen.inputs ++ seen.driven)
signals_are lines seen f =
    let s = sound_is lines seen f in
    let is : (w : List ℕ) → is_name_under f.limits w ≡ true → is_name w ≡ true = name_under f.limits in
    record {
      named = All-append (λ w. is_name w ≡ true) seen.inputs seen.driven (All-weaker (λ w. is_name_under f.limits w ≡ true) (λ w. is_name w ≡ true) is seen.inputs s.inputs.named) (All-weaker (λ w. is_name_under f.limits w ≡ true) (λ w. is_name w ≡ true) is seen.driven s.driven.named);
      few = omega (arith, length-append seen.inputs seen.driven, s.inputs.few, few_driven lines seen f, few_lines f.limits);
    }

apart : {model : Option Declared} (lines : List WordLine) (seen : Seen) → AreFaultless model lines seen → IsDistinct (outs (gates lines))
apart lines seen f = subst (λ (ws : List Word). IsDistinct ws) (sym (outs_are lines seen f)) (sound_is lines seen f).driven.apart

-- ---- drafts, gates and needs

known_are : (lines : List WordLine) (seen : Seen) (drafts : List Draft) → AreDrafted lines seen drafts → AreKnown (seen.inputs ++ outs (gates lines)) (gates lines)
known_are lines seen drafts h =
    subst (λ (ws : List (List ℕ)). AreKnown (seen.inputs ++ ws) (gates lines)) (sym (outs_are lines seen h.faultless)) (reads_known (seen.inputs ++ seen.driven) lines h.reads)

of_is : (lines : List WordLine) (seen : Seen) (drafts : List Draft) → AreDrafted lines seen drafts → AreOf (seen.inputs ++ seen.driven) lines drafts (gates lines) (λ names. unplaced names lines)
of_is lines seen drafts h = subst (λ (ds : List Draft). AreOf (seen.inputs ++ seen.driven) lines ds (gates lines) (λ names. unplaced names lines)) (sym h.drafts_are) (drafts_are (seen.inputs ++ seen.driven) lines)

fit_are : {model : Option Declared} (lines : List WordLine) (seen : Seen) (f : AreFaultless model lines seen) → AllByRecursion (IsFit f.limits) (gates lines)
fit_are {model = m} lines seen f = gates_fit f.limits m [] lines f.none

size_is : (lines : List WordLine) (seen : Seen) (drafts : List Draft) → AreDrafted lines seen drafts → (length drafts ≡ length (gates lines)) × (length (gates lines) ≡ length seen.driven)
size_is lines seen drafts h = (
  sym (length-map drafts (gate_by lines)) ∙ ap length (of_is lines seen drafts h).gates_are,
  sym (length-map (gates lines) (λ (c : NamedGate). c.out)) ∙ ap length (outs_are lines seen h.faultless),
)

needs_are : (lines : List WordLine) (seen : Seen) (drafts : List Draft) → AreDrafted lines seen drafts → map (λ d. gates_among (length seen.inputs) d.pins) drafts ≡ needs_of seen.inputs (gates lines)
needs_are lines seen drafts h =
    let n = length seen.inputs in
    let cs = gates lines in
    map_map (gates_among n) (λ (d : Draft). d.pins) drafts ∙ ap (map (gates_among n)) (of_is lines seen drafts h).pins_are
    ∙ ap (λ (ws : List (List ℕ)). map (gates_among n) (map (pins_by (seen.inputs ++ ws)) cs)) (sym (outs_are lines seen h.faultless)) ∙ sym (map_map (gates_among n) (pins_by (seen.inputs ++ outs cs)) cs)

among_bound : (n m : ℕ) (ss : List ℕ) → AllByRecursion (λ s. s < n + m) ss → AllByRecursion (λ d. d < m) (gates_among n ss) × (length (gates_among n ss) ≤ length ss)
among_bound n m [] h = (tt, omega arith)
among_bound n m (s ∷ ss) h =
    let rest = among_bound n m ss h.1 in
    elim (cases_lt s n) [ inl lt ↦ rw (lt-ltb s n lt) (rest.0, omega (arith, rest.1)) | inr le ↦ rw (le-ltb s n le) ((omega (arith, h.0, le), rest.0), omega (arith, rest.1)) ]

pins_bound : (known : List (List ℕ)) (pins : List (List ℕ)) → AllByRecursion (λ pin. is_among pin known ≡ true) pins → AllByRecursion (λ s. s < length known) (map (λ w. place_of w known) pins)
pins_bound known [] h = tt
pins_bound known (pin ∷ pins) h = (place_bound pin known h.0, pins_bound known pins h.1)

needs_bound : (limits : NetLimits) (i ws : List (List ℕ)) (cs : List NamedGate) → AreKnown (i ++ ws) cs → AllByRecursion (IsFit limits) cs
    → AllByRecursion (λ need. length need < 2 ^ 32) (map (λ c. waits_of i ws c.pins) cs) × AllByRecursion (λ need. All (λ d. d < length ws) need) (map (λ c. waits_of i ws c.pins) cs)
needs_bound limits i ws [] h f = (tt, tt)
needs_bound limits i ws (c ∷ cs) h f =
    let pins = pins_by (i ++ ws) c in
    let here = among_bound (length i) (length ws) pins (subst (λ n. AllByRecursion (λ s. s < n) pins) (length-append i ws) (pins_bound (i ++ ws) c.pins h.0)) in
    let rest = needs_bound limits i ws cs h.1 f.1 in
    ((omega (arith, here.1, length-map c.pins (λ w. place_of w (i ++ ws)), f.0.few), rest.0), (All-from_recursion (λ d. d < length ws) (waits_of i ws c.pins) here.0, rest.1))

-- the needs can be put in order
pub needs_fit : (lines : List WordLine) (seen : Seen) (drafts : List Draft) (needs : List (List ℕ)) → AreDrafted lines seen drafts → needs ≡ map (λ d. gates_among (length seen.inputs) d.pins) drafts
    → (length needs < 2 ^ 32) × All (λ need. length need < 2 ^ 32) needs × All (λ need. All (λ d. d < length needs) need) needs
needs_fit lines seen drafts needs h e =
    let cs = gates lines in
    let is = e ∙ needs_are lines seen drafts h in
    let size : length needs ≡ length cs = ap length is ∙ length-map cs (λ (c : NamedGate). waits_of seen.inputs (outs cs) c.pins) in
    let total : length (outs cs) ≡ length cs = length-map cs (λ (c : NamedGate). c.out) in
    let same : length (outs cs) ≡ length needs = total ∙ sym size in
    let both = needs_bound h.faultless.limits seen.inputs (outs cs) cs (known_are lines seen drafts h) (fit_are lines seen h.faultless) in (
      omega (arith, size, (size_is lines seen drafts h).1, few_driven lines seen h.faultless),
      subst (λ (ns : List (List ℕ)). All (λ need. length need < 2 ^ 32) ns) (sym is) (All-from_recursion (λ need. length need < 2 ^ 32) (needs_of seen.inputs cs) both.0),
      subst (λ m. All (λ need. All (λ d. d < m) need) needs) same (subst (λ (ns : List (List ℕ)). All (λ need. All (λ d. d < length (outs cs)) need) ns) (sym is) (All-from_recursion (λ need. All (λ d. d < length (outs cs)) need) (needs_of seen.inputs cs) both.1)),
    )

-- ---- a plan

order_needs : (lines : List WordLine) (seen : Seen) (drafts : List Draft) (order : List ℕ) (ranks : List (Option ℕ)) → AreDrafted lines seen drafts → IsPlan (length seen.inputs) drafts order ranks → order ≡ by_place.order_of (needs_of seen.inputs (gates lines))
order_needs lines seen drafts order ranks h p = p.order_is ∙ ap by_place.order_of (needs_are lines seen drafts h)

ranks_are : (lines : List WordLine) (seen : Seen) (drafts : List Draft) (order : List ℕ) (ranks : List (Option ℕ)) → AreDrafted lines seen drafts → IsPlan (length seen.inputs) drafts order ranks → AreRanks (gates lines) order ranks
ranks_are lines seen drafts order ranks h p =
    let cs = gates lines in
    let needs = needs_of seen.inputs cs in
    let is = order_needs lines seen drafts order ranks h p in
    let size : length needs ≡ length cs = length-map cs (λ (c : NamedGate). waits_of seen.inputs (outs cs) c.pins) in
    record {
      below = subst (λ n. AllBelow n order) size (subst (AllBelow (length needs)) (sym is) (order_below needs (length needs) [] tt));
      short = omega (arith, ap length is, order_short needs (length needs) [], size);
      size = p.size ∙ (size_is lines seen drafts h).0;
      rank = p.rank;
    }

pub order_within : (lines : List WordLine) (seen : Seen) (drafts : List Draft) (order : List ℕ) → AreDrafted lines seen drafts → order ≡ by_place.order_of (map (λ d. gates_among (length seen.inputs) d.pins) drafts)
    → (length order < 2 ^ 32) × All (λ g. g < length drafts) order
order_within lines seen drafts order h e =
    let needs = map (λ d. gates_among (length seen.inputs) d.pins) drafts in
    let size : length needs ≡ length drafts = length-map drafts (λ d. gates_among (length seen.inputs) d.pins) in
    let sizes = size_is lines seen drafts h in (
      omega (arith, ap length e, order_short needs (length needs) [], size, sizes.0, sizes.1, few_driven lines seen h.faultless),
      subst (λ n. All (λ g. g < n) order) size (subst (λ (os : List ℕ). All (λ g. g < length needs) os) (sym e) (All-from_recursion (λ g. g < length needs) (by_place.order_of needs) (order_below needs (length needs) [] tt))),
    )

-- ---- what can be built

covers_bound : (limits : NetLimits) (known : List (List ℕ)) (cs : List NamedGate) → AreKnown known cs → AllByRecursion (IsFit limits) cs
    → AllByRecursion (λ c. length (pins_by known c) ≤ PINS) cs × AllByRecursion (λ c. All (λ s. s < length known) (pins_by known c)) cs
covers_bound limits known [] h f = (tt, tt)
covers_bound limits known (c ∷ cs) h f =
    let rest = covers_bound limits known cs h.1 f.1 in
    ((omega (arith, length-map c.pins (λ w. place_of w known), f.0.few), rest.0), (All-from_recursion (λ s. s < length known) (pins_by known c) (pins_bound known c.pins h.0), rest.1))

pub buildable_are : (lines : List WordLine) (seen : Seen) (drafts : List Draft) (order : List ℕ) (ranks : List (Option ℕ)) → AreDrafted lines seen drafts → IsPlan (length seen.inputs) drafts order ranks → AreBuildable (length lines) seen drafts ranks
buildable_are lines seen drafts order ranks h p =
    let known = seen.inputs ++ seen.driven in
    let of = of_is lines seen drafts h in
    let sizes = size_is lines seen drafts h in
    let both = covers_bound h.faultless.limits known (gates lines) (reads_known known lines h.reads) (fit_are lines seen h.faultless) in
    let total : length known ≡ length seen.inputs + length ranks = omega (arith, length-append seen.inputs seen.driven, p.size, sizes.0, sizes.1) in
    record {
      lines = All-from_recursion (λ d. d.line < length lines) drafts of.within;
      few = All-from_recursion (λ d. length d.pins ≤ PINS) drafts (all_across (λ (d : Draft). d.pins) (pins_by known) (λ (ss : List ℕ). length ss ≤ PINS) drafts (gates lines) of.pins_are both.0);
      known = subst (λ n. All (λ d. All (λ s. s < n) d.pins) drafts) total (All-from_recursion (λ d. All (λ s. s < length known) d.pins) drafts (all_across (λ (d : Draft). d.pins) (pins_by known) (λ (ss : List ℕ). All (λ s. s < length known) ss) drafts (gates lines) of.pins_are both.1));
      drafts_size = sizes.0 ∙ sizes.1;
      ranks_size = p.size ∙ sizes.0 ∙ sizes.1;
      short = omega (arith, total, (signals_are lines seen h.faultless).few);
      ranked = ranks_below (gates lines) order ranks (ranks_are lines seen drafts order ranks h p);
    }

-- ---- where one is left

lines_placed : (lines : List WordLine) (seen : Seen) (drafts : List Draft) (order : List ℕ) (ranks : List (Option ℕ)) → AreDrafted lines seen drafts → IsPlan (length seen.inputs) drafts order ranks
    → placed seen.inputs (gates lines) ≡ in_order (gates lines) order
lines_placed lines seen drafts order ranks h p = one_order seen.inputs (gates lines) (apart lines seen h.faultless) (known_are lines seen drafts h) ∙ ap (in_order (gates lines)) (sym (order_needs lines seen drafts order ranks h p))

-- the first line whose gate isn't placed is that of the first draft whose gate is left
left_first : (lines : List WordLine) (seen : Seen) (drafts : List Draft) (order : List ℕ) (ranks : List (Option ℕ)) (found : Option Draft) → AreDrafted lines seen drafts → IsPlan (length seen.inputs) drafts order ranks
    → find (λ d. left (gates lines) order (gate_by lines d)) drafts ≡ found → unplaced (outs (placed seen.inputs (gates lines))) lines ≡ option_map (λ d. (number_by lines d, fault.Cycle)) found
left_first lines seen drafts order ranks found h p e =
    ap (λ (gs : List NamedGate). unplaced (outs gs) lines) (lines_placed lines seen drafts order ranks h p)
    ∙ (of_is lines seen drafts h).first (outs (in_order (gates lines) order)) ∙ ap (λ (o : Option Draft). option_map (λ d. (number_by lines d, fault.Cycle)) o) e

-- the constants of outputs that no gate drives
abbrev extra : Seen → List NamedGate
extra seen = map constant_0 (idle seen seen.outputs)

-- the gates of the network
abbrev pub all_gates : List WordLine → Seen → List NamedGate
all_gates lines seen = placed seen.inputs (gates lines) ++ extra seen

pub gates_are : {model : Option Declared} (lines : List WordLine) (seen : Seen) → AreFaultless model lines seen → part_gates (declared_in seen) (gates lines) ≡ all_gates lines seen
gates_are lines seen f = ap (λ (ws : List Word). placed seen.inputs (gates lines) ++ map constant_0 (filter (λ w. not (is_among w ws)) seen.outputs)) (outs_are lines seen f)

left_said : (lines : List WordLine) (seen : Seen) (drafts : List Draft) (order : List ℕ) (ranks : List (Option ℕ)) (name : List ℕ) (found : Option Draft) → AreDrafted lines seen drafts → IsPlan (length seen.inputs) drafts order ranks
    → find (λ d. left (gates lines) order (gate_by lines d)) drafts ≡ found
    → placed_net name lines seen ≡ judged (option_map (λ d. (number_by lines d, fault.Cycle)) found) (net_of name seen.inputs seen.outputs (in_order (gates lines) order ++ extra seen))
left_said lines seen drafts order ranks name found h p e =
    ap₂ (λ (o : Option (ℕ × BlifFault)) (gs : List NamedGate). judged o (net_of name seen.inputs seen.outputs gs)) (left_first lines seen drafts order ranks found h p e)
    (gates_are lines seen h.faultless ∙ ap (λ (gs : List NamedGate). gs ++ extra seen) (lines_placed lines seen drafts order ranks h p))

pub cycle_said : (lines : List WordLine) (seen : Seen) (drafts : List Draft) (order : List ℕ) (ranks : List (Option ℕ)) (name : List ℕ) (g : ℕ) → AreDrafted lines seen drafts → IsPlan (length seen.inputs) drafts order ranks → position (λ o. is_none o) ranks ≡ Some g
    → (g < length drafts) × (placed_net name lines seen ≡ Err (number_by lines (draft_at drafts g), fault.Cycle))
cycle_said lines seen drafts order ranks name g h p e =
    let one = one_left (gates lines) order ranks (gate_by lines) drafts g (of_is lines seen drafts h).gates_are (apart lines seen h.faultless) (ranks_are lines seen drafts order ranks h p) e in
    (one.0, left_said lines seen drafts order ranks name (Some (draft_at drafts g)) h p one.1)

-- ---- where all are placed

none_found : (lines : List WordLine) (seen : Seen) (drafts : List Draft) (order : List ℕ) (ranks : List (Option ℕ)) → AreDrafted lines seen drafts → IsPlan (length seen.inputs) drafts order ranks → position (λ o. is_none o) ranks ≡ None
    → find (λ d. left (gates lines) order (gate_by lines d)) drafts ≡ None
none_found lines seen drafts order ranks h p e = (none_left (gates lines) order ranks (gate_by lines) drafts (of_is lines seen drafts h).gates_are (apart lines seen h.faultless) (ranks_are lines seen drafts order ranks h p) e).0

fine_are : (limits : NetLimits) (i : List Word) (cs : List NamedGate) → AllByRecursion (IsFit limits) cs → AllByRecursion (λ w. is_among w i ≡ false) (outs cs) → AllByRecursion (IsFine limits i) cs
fine_are limits i [] h k = tt
fine_are limits i (c ∷ cs) h k = ((h.0, k.0), fine_are limits i cs h.1 k.1)

-- a name that is among those of these gates is among the names that each of them has one of
among_all : (cs : List NamedGate) (names : List Word) (w : Word) → AllByRecursion (λ g. is_among g.out names ≡ true) cs → is_among w (outs cs) ≡ true → is_among w names ≡ true
among_all [] names w h t = absurd (false≢true t)
among_all (c ∷ cs) names w h t = elim (cases_Bool (bytes_eq w c.out)) [
  | inl e ↦ ap (λ (v : Word). is_among v names) ((bytes_eq-Decides w c.out).0 e) ∙ h.0
  | inr f ↦ among_all cs names w h.1 (sym (ap (λ (b : Bool). b || is_among w (outs cs)) f) ∙ t)
]

not_from : (cs : List NamedGate) (names : List Word) (w : Word) → AllByRecursion (λ g. is_among g.out names ≡ true) cs → is_among w names ≡ false → is_among w (outs cs) ≡ false
not_from cs names w h f = elim (cases_Bool (is_among w (outs cs))) [ inl t ↦ absurd (both_ways (is_among w names) f (among_all cs names w h t)) | inr n ↦ n ]

-- each gate is among those of the list
own_names : (cs : List NamedGate) → AllByRecursion (λ g. is_among g.out (outs cs) ≡ true) cs
own_names cs = recursion_from_All (λ g. is_among g.out (outs cs) ≡ true) cs (λ k d lt.
    ap (λ (w : Word). is_among w (outs cs)) (sym (get_or-map (λ (g : NamedGate). g.out) cs k d [] lt)) ∙ among_at (outs cs) k (omega (arith, length-map cs (λ (g : NamedGate). g.out))))

kept_among : (p : Word → Bool) (ws : List Word) (w : Word) → is_among w ws ≡ true → p w ≡ true → is_among w (filter p ws) ≡ true
kept_among p [] w h t = absurd (false≢true h)
kept_among p (v ∷ ws) w h t = elim (cases_Bool (bytes_eq w v)) [
  | inl e ↦ rw (sym (ap p ((bytes_eq-Decides w v).0 e)) ∙ t, e) refl
  | inr f ↦ later (p v) (kept_among p ws w (sym (ap (λ (b : Bool). b || is_among w ws) f) ∙ h) t)
]
  where
    later : (b : Bool) → is_among w (filter p ws) ≡ true → is_among w (cond b (v ∷ filter p ws) (filter p ws)) ≡ true
    later true k = or_right (bytes_eq w v) _ k
    later false k = k

-- the network that is said where no gate is left
pub parts_are : (lines : List WordLine) (seen : Seen) (drafts : List Draft) (h : AreDrafted lines seen drafts) → unplaced (outs (placed seen.inputs (gates lines))) lines ≡ None
    → AreParts h.faultless.limits seen.inputs seen.outputs seen.driven (all_gates lines seen)
parts_are lines seen drafts h none =
    let f = h.faultless in
    let i = seen.inputs in
    let o = seen.outputs in
    let cs = gates lines in
    let gs = placed i cs in
    let left = idle seen o in
    let sound = sound_is lines seen f in
    let new = subst (λ (ws : List Word). All (λ w. is_among w i ≡ false) ws) (sym (outs_are lines seen f)) sound.driven_new in
    let start : ArePlaced f.limits i [] = record { apart = λ a b d lt in'. absurd (omega arith); fine = tt; ready = λ k lt. absurd (omega arith) } in
    let are = are_placed f.limits i cs (length cs) [] (fine_are f.limits i cs (fit_are lines seen f) (recursion_from_All (λ w. is_among w i ≡ false) (outs cs) new)) start in
    let own = placed_each (λ g. is_among g.out (outs cs) ≡ true) i cs (length cs) [] (own_names cs) tt in
    let others : All (λ w. is_among w (outs gs) ≡ false) left =
    All-weaker (λ w. not (is_among w seen.driven) ≡ true) (λ w. is_among w (outs gs) ≡ false) (λ w e. not_from gs (outs cs) w own (ap (is_among w) (outs_are lines seen f) ∙ not-true _ e)) left (filter_passes (λ w. not (is_among w seen.driven)) o) in
    let apart : IsDistinct (outs gs ++ left) = distinct_append (outs gs) left are.0.apart (AllPairs-filter (λ x y. x ≢ y) (λ w. not (is_among w seen.driven)) o sound.outputs.apart) (list_any_none (λ w. is_among w (outs gs)) left others) in
    let both : All (IsIdle f.limits i) o = λ k d lt. (sound.outputs.named k d lt, sound.outputs_new k d lt) in
    let names = outs_with gs left in
    let all = names_known (outs gs) lines none in
    record {
      in_part = is_some h.model;
      sound = sound;
      placed = zeros_placed f.limits i gs left are.0 (recursion_from_All (IsIdle f.limits i) left (All-filter (λ w. not (is_among w seen.driven)) (IsIdle f.limits i) o both)) (fresh (outs gs) left apart);
      few = omega (arith, length-append gs (extra seen), length-map left constant_0, are.1, (size_is lines seen drafts h).1, h.few);
      shown = recursion_from_All (λ w. is_among w (outs (gs ++ extra seen)) ≡ true) o (λ k d lt.
          let w = get_or o k d in
          let among : is_among w o ≡ true = ap (λ (v : Word). is_among v o) (get_or_default o k d [] lt) ∙ among_at o k lt in
          ap (is_among w) names ∙ among_both w (outs gs) left
          ∙ elim (cases_Bool (is_among w seen.driven)) [
            | inl t ↦ or_left (is_among w (outs gs)) (is_among w left) (among_all cs (outs gs) w all (ap (is_among w) (outs_are lines seen f) ∙ t))
            | inr n ↦ or_right (is_among w (outs gs)) (is_among w left) (kept_among (λ v. not (is_among v seen.driven)) o w among (ap not n))
          ]);
      some_input = h.some_input;
      some_output = h.some_output;
    }

-- what is known of the gates and their ranks where none is left
record AreRanked (i : List Word) (cs : List NamedGate) (order : List ℕ) (ranks : List (Option ℕ)) : Type 0 where
  apart : IsDistinct (outs cs)
  known : AreKnown (i ++ outs cs) cs
  own : AllByRecursion (λ g. is_among g.out (outs cs) ≡ true) (in_order cs order)
  placed : AllByRecursion (λ g. is_among g.out (outs (in_order cs order)) ≡ true) cs
  ranked : AreRanks cs order ranks
  all : (g : ℕ) → g < length cs → is_none (rank_in order g) ≡ false

ranked_are : (lines : List WordLine) (seen : Seen) (drafts : List Draft) (order : List ℕ) (ranks : List (Option ℕ)) → AreDrafted lines seen drafts → IsPlan (length seen.inputs) drafts order ranks → position (λ o. is_none o) ranks ≡ None
    → AreRanked seen.inputs (gates lines) order ranks
ranked_are lines seen drafts order ranks h p e =
    let cs = gates lines in
    let f = h.faultless in
    let i = seen.inputs in
    let ranked = ranks_are lines seen drafts order ranks h p in
    let are = lines_placed lines seen drafts order ranks h p in
    let none = left_first lines seen drafts order ranks None h p (none_found lines seen drafts order ranks h p e) in
    record {
      apart = apart lines seen f;
      known = known_are lines seen drafts h;
      own = subst (AllByRecursion (λ g. is_among g.out (outs cs) ≡ true)) are (placed_each (λ g. is_among g.out (outs cs) ≡ true) i cs (length cs) [] (own_names cs) tt);
      placed = subst (λ (gs : List NamedGate). AllByRecursion (λ g. is_among g.out (outs gs) ≡ true) cs) are (names_known (outs (placed i cs)) lines none);
      ranked = ranked;
      all = (none_left cs order ranks (gate_by lines) drafts (of_is lines seen drafts h).gates_are (apart lines seen f) ranked e).1;
    }

-- the number of a name of the lines is its place among the names of the network
numbered : (i : List Word) (cs : List NamedGate) (order : List ℕ) (ranks : List (Option ℕ)) (ws : List Word) (w : Word) → AreRanked i cs order ranks → is_among w (i ++ outs cs) ≡ true
    → renumbered (length i) ranks (place_of w (i ++ outs cs)) ≡ place_of w (i ++ outs (in_order cs order ++ map constant_0 ws))
numbered i cs order ranks ws w p known =
    let new = outs (in_order cs order) in
    let there : is_among w (i ++ new) ≡ true = among_both w i new ∙ elim (cases_Bool (is_among w i)) [
      | inl t ↦ or_left (is_among w i) (is_among w new) t
      | inr f ↦ or_right (is_among w i) (is_among w new) (among_all cs new w p.placed (sym (ap (λ (b : Bool). b || is_among w (outs cs)) f) ∙ sym (among_both w i (outs cs)) ∙ known))
    ] in
    renumber_same i cs order ranks w p.apart p.ranked p.all known ∙ sym (place_of-append w (i ++ new) ws ∙ cond-true _ _ _ there)
    ∙ ap (place_of w) (append_assoc i new ws ∙ ap (λ (vs : List Word). i ++ vs) (sym (outs_with (in_order cs order) ws)))

gate_built : (lines : List WordLine) (seen : Seen) (drafts : List Draft) (order : List ℕ) (ranks : List (Option ℕ)) (h : AreDrafted lines seen drafts) → AreRanked seen.inputs (gates lines) order ranks → (g : ℕ) → g < length (gates lines)
    → built_at lines seen.driven drafts (length seen.inputs) ranks g ≡ gate_in (seen.inputs ++ outs (in_order (gates lines) order ++ extra seen)) (gate_at (gates lines) g)
gate_built lines seen drafts order ranks h p g lt =
    let cs = gates lines in
    let i = seen.inputs in
    let n = length i in
    let known = i ++ seen.driven in
    let new = i ++ outs (in_order cs order ++ extra seen) in
    let of = of_is lines seen drafts h in
    let in' : g < length drafts = omega (arith, (size_is lines seen drafts h).0) in
    let no_draft : Draft = record { line = 0; pins = [] } in
    let draft = draft_at drafts g in
    let c = gate_at cs g in
    let within : draft.line < length lines = All-from_recursion (λ d. d.line < length lines) drafts of.within g no_draft in' in
    let args = drop 1 (get_or lines draft.line (record { number = 0; words = [] })).words in
    let rows = rows_of (drop (draft.line + 1) lines) in
    let there : c ≡ gate_of args rows =
    ap (λ (us : List NamedGate). get_or us g blank) (sym of.gates_are) ∙ get_or-map (gate_by lines) drafts g no_draft blank in' ∙ ap front (drop_more lines draft.line (record { number = 0; words = [] }) within) in
    let out : get_or seen.driven g [] ≡ c.out = ap (λ (ws : List Word). get_or ws g []) (sym (outs_are lines seen h.faultless)) ∙ sym (out_at cs g lt) in
    let pins : draft.pins ≡ pins_by known c =
    sym (get_or-map (λ (d : Draft). d.pins) drafts g no_draft [] in') ∙ ap (λ (ps : List (List ℕ)). get_or ps g []) of.pins_are ∙ get_or-map (pins_by known) cs g blank [] lt in
    let width : length draft.pins ≡ length args - 1 =
    ap length pins ∙ length-map c.pins (λ w. place_of w known) ∙ ap (λ (u : NamedGate). length u.pins) there ∙ length-take-le (length args - 1) args (omega arith) in
    let numbers : map (renumbered n ranks) (pins_by known c) ≡ map (λ pin. place_of pin new) c.pins =
    sym (map_map (renumbered n ranks) (λ w. place_of w known) c.pins)
    ∙ same_along (λ w. is_among w (i ++ outs cs) ≡ true) (λ w. renumbered n ranks (place_of w known)) (λ pin. place_of pin new) c.pins
    (λ w k. ap (λ (ws : List Word). renumbered n ranks (place_of w (i ++ ws))) (sym (outs_are lines seen h.faultless)) ∙ numbered i cs order ranks (idle seen seen.outputs) w p k)
    (known_at (i ++ outs cs) cs g p.known lt) in
    ap₂ (λ (w : Word) (ps : List ℕ). gate w ps (map (row_cube (length draft.pins)) rows) (is_on rows)) out (ap (map (renumbered n ranks)) pins ∙ numbers)
    ∙ ap₂ (λ (rs : List Product) (b : Bool). gate c.out (map (λ pin. place_of pin new) c.pins) rs b) (ap (λ m. map (row_cube m) rows) width ∙ ap (λ (u : NamedGate). u.rows) (sym there)) (ap (λ (u : NamedGate). u.on) (sym there))

port_is : (lines : List WordLine) (seen : Seen) (drafts : List Draft) (order : List ℕ) (ranks : List (Option ℕ)) (h : AreDrafted lines seen drafts) → AreRanked seen.inputs (gates lines) order ranks → (w : Word) → is_among w seen.inputs ≡ false
    → shown_by seen ranks (length order) w ≡ place_of w (seen.inputs ++ outs (in_order (gates lines) order ++ extra seen))
port_is lines seen drafts order ranks h p w out =
    let cs = gates lines in
    let i = seen.inputs in
    let new = outs (in_order cs order) in
    let left = idle seen seen.outputs in
    let same = outs_are lines seen h.faultless in
    elim (cases_Bool (is_among w seen.driven)) [
      | inl t ↦
          (let there : is_among w (i ++ outs cs) ≡ true = among_both w i (outs cs) ∙ or_right (is_among w i) (is_among w (outs cs)) (ap (is_among w) same ∙ t) in
          cond-true _ _ _ t ∙ ap (renumbered (length i) ranks) (sym (place_of-append w i seen.driven ∙ cond-false _ _ _ out) ∙ ap (λ (ws : List Word). place_of w (i ++ ws)) (sym same)) ∙ numbered i cs order ranks left w p there)
      | inr f ↦
          (let none : is_among w new ≡ false = not_from (in_order cs order) (outs cs) w p.own (ap (is_among w) same ∙ f) in
          let at : place_of w (i ++ outs (in_order cs order ++ extra seen)) ≡ length i + place_of w (new ++ left) =
          ap (λ (ws : List Word). place_of w (i ++ ws)) (outs_with (in_order cs order) left) ∙ place_of-append w i (new ++ left) ∙ cond-false _ _ _ out in
          let after : place_of w (new ++ left) ≡ length new + place_of w left = place_of-append w new left ∙ cond-false _ _ _ none in
          cond-false _ _ _ f ∙ omega (arith, at, after, length-map (in_order cs order) (λ (g : NamedGate). g.out), length-map order (gate_at cs)))
    ]

drawn_is : (lines : List WordLine) (seen : Seen) (drafts : List Draft) (order : List ℕ) (ranks : List (Option ℕ)) (name : List ℕ) (h : AreDrafted lines seen drafts) → AreRanked seen.inputs (gates lines) order ranks
    → drawn lines seen drafts order ranks name ≡ net_of name seen.inputs seen.outputs (in_order (gates lines) order ++ extra seen)
unfolding net_of
drawn_is lines seen drafts order ranks name h p =
    let cs = gates lines in
    let i = seen.inputs in
    let left = idle seen seen.outputs in
    let new = i ++ outs (in_order cs order ++ extra seen) in
    let others = recursion_from_All (λ w. is_among w i ≡ false) seen.outputs (sound_is lines seen h.faultless).outputs_new in
    let ports : map (shown_by seen ranks (length order)) seen.outputs ≡ map (λ o. place_of o new) seen.outputs =
    same_along (λ w. is_among w i ≡ false) (shown_by seen ranks (length order)) (λ o. place_of o new) seen.outputs (port_is lines seen drafts order ranks h p) others in
    let made : map (built_at lines seen.driven drafts (length i) ranks) order ≡ map (gate_in new) (in_order cs order) =
    same_along (λ g. g < length cs) (built_at lines seen.driven drafts (length i) ranks) (λ g. gate_in new (gate_at cs g)) order (λ g lt. gate_built lines seen drafts order ranks h p g lt) p.ranked.below
    ∙ map_map (gate_in new) (gate_at cs) order in
    let zeros : map zero_gate left ≡ map (gate_in new) (extra seen) = map_map (gate_in new) constant_0 left in
    ap₂ (λ (ps : List ℕ) (gs : List Gate). network name i ps gs) ports (ap₂ (λ (xs ys : List Gate). xs ++ ys) made zeros ∙ sym (map-append (gate_in new) (in_order cs order) (extra seen)))

-- the ports can be made
pub ports_are : (lines : List WordLine) (seen : Seen) (drafts : List Draft) (order : List ℕ) (ranks : List (Option ℕ)) → AreDrafted lines seen drafts → IsPlan (length seen.inputs) drafts order ranks → ArePorts seen ranks (length order)
ports_are lines seen drafts order ranks h p =
    let sound = sound_is lines seen h.faultless in
    let b = buildable_are lines seen drafts order ranks h p in
    let r = ranks_are lines seen drafts order ranks h p in
    record { size = b.ranks_size; short = b.short; ranked = b.ranked; apart = sound.outputs.apart; room = omega (arith, sound.inputs.few, sound.outputs.few, few_lines h.faultless.limits, r.short, (size_is lines seen drafts h).1, few_driven lines seen h.faultless) }

-- the network is valid, and what the lines say
pub drawn_valid : (lines : List WordLine) (seen : Seen) (drafts : List Draft) (order : List ℕ) (ranks : List (Option ℕ)) (name : List ℕ) → AreDrafted lines seen drafts → IsPlan (length seen.inputs) drafts order ranks → position (λ o. is_none o) ranks ≡ None
    → is_name name ≡ true → IsValid (drawn lines seen drafts order ranks name)
drawn_valid lines seen drafts order ranks name h p e m =
    let same : drawn lines seen drafts order ranks name ≡ net_of name seen.inputs seen.outputs (all_gates lines seen) =
    drawn_is lines seen drafts order ranks name h (ranked_are lines seen drafts order ranks h p e) ∙ ap (λ (gs : List NamedGate). net_of name seen.inputs seen.outputs (gs ++ extra seen)) (sym (lines_placed lines seen drafts order ranks h p)) in
    let none = left_first lines seen drafts order ranks None h p (none_found lines seen drafts order ranks h p e) in
    subst IsValid (sym same) (is_valid h.faultless.limits name seen.inputs seen.outputs seen.driven (all_gates lines seen) m (parts_are lines seen drafts h none))

pub net_said : (lines : List WordLine) (seen : Seen) (drafts : List Draft) (order : List ℕ) (ranks : List (Option ℕ)) (name : List ℕ) → AreDrafted lines seen drafts → IsPlan (length seen.inputs) drafts order ranks → position (λ o. is_none o) ranks ≡ None
    → placed_net name lines seen ≡ Ok (drawn lines seen drafts order ranks name)
net_said lines seen drafts order ranks name h p e =
    left_said lines seen drafts order ranks name None h p (none_found lines seen drafts order ranks h p e)
    ∙ ap (λ (net : Network). Ok net) (sym (drawn_is lines seen drafts order ranks name h (ranked_are lines seen drafts order ranks h p e)))

-- ---- the answers of a model

-- what lines say, by the lists of what is seen
abbrev said_in : ℕ → List WordLine → List Word → List Word → List Word → Result Network (ℕ × BlifFault)
said_in last lines i o d =
    let order = placed i (gates lines) in
    judged (option_or (at_line last (first_of ((eqb (length i) 0, fault.NoInputs) ∷ (eqb (length o) 0, fault.NoOutputs) ∷ [])))
    (option_or (undefined_pin (i ++ d) lines) (option_or (undefined_output (i ++ d) lines) (unplaced (outs order) lines)))) (net_of (model_of (words_of lines)) i o order)

pub lines_say_is : (last : ℕ) (lines : List WordLine) (seen : Seen) → AreFaultless None lines seen → lines_say last lines ≡ said_in last lines seen.inputs seen.outputs seen.driven
unfolding whole_fault
lines_say_is last lines seen f =
    ap₂ (λ (i o : List Word). said_in last lines i o (outs (gates lines))) (sym (inputs_are lines seen f)) (sym (outputs_are lines seen f)) ∙ ap (λ (d : List Word). said_in last lines seen.inputs seen.outputs d) (outs_are lines seen f)

pub no_inputs : (last : ℕ) (lines : List WordLine) (seen : Seen) → AreFaultless None lines seen → length seen.inputs ≡ 0 → lines_say last lines ≡ Err (last, fault.NoInputs)
no_inputs last lines seen f h = lines_say_is last lines seen f ∙ rw (eq-eqb (length seen.inputs) 0 h) refl

pub no_outputs : (last : ℕ) (lines : List WordLine) (seen : Seen) → AreFaultless None lines seen → 0 < length seen.inputs → length seen.outputs ≡ 0 → lines_say last lines ≡ Err (last, fault.NoOutputs)
no_outputs last lines seen f i h = lines_say_is last lines seen f ∙ rw (ne_eqb (length seen.inputs) 0 (omega arith), eq-eqb (length seen.outputs) 0 h) refl

both_some : (last : ℕ) (lines : List WordLine) (seen : Seen) → AreFaultless None lines seen → 0 < length seen.inputs → 0 < length seen.outputs
    → let order = placed seen.inputs (gates lines) in let known = seen.inputs ++ seen.driven in
    lines_say last lines ≡ judged (option_or (undefined_pin known lines) (option_or (undefined_output known lines) (unplaced (outs order) lines))) (net_of (model_of (words_of lines)) seen.inputs seen.outputs order)
both_some last lines seen f i o = lines_say_is last lines seen f ∙ rw (ne_eqb (length seen.inputs) 0 (omega arith), ne_eqb (length seen.outputs) 0 (omega arith)) refl

pub reads_said : (last : ℕ) (lines : List WordLine) (seen : Seen) (e : TextErr BlifFault) → AreFaultless None lines seen → 0 < length seen.inputs → 0 < length seen.outputs
    → Tells {X = Unit {0}} (undefined_pin (seen.inputs ++ seen.driven) lines) (Unit {0}) (Err e) → Gives (lines_say last lines) (Err e)
reads_said last lines seen (errors.At n f) h i o found = both_some last lines seen h i o ∙ rw found refl
reads_said last lines seen errors.Memory h i o found = tt

pub shows_said : (last : ℕ) (lines : List WordLine) (seen : Seen) (e : TextErr BlifFault) → AreFaultless None lines seen → 0 < length seen.inputs → 0 < length seen.outputs → undefined_pin (seen.inputs ++ seen.driven) lines ≡ None
    → Tells {X = Unit {0}} (undefined_output (seen.inputs ++ seen.driven) lines) (Unit {0}) (Err e) → Gives (lines_say last lines) (Err e)
shows_said last lines seen (errors.At n f) h i o none found = both_some last lines seen h i o ∙ rw (none, found) refl
shows_said last lines seen errors.Memory h i o none found = tt

none_kept : (names ws : List Word) → AllByRecursion (λ w. is_among w names ≡ true) ws → filter (λ w. not (is_among w names)) ws ≡ []
none_kept names [] h = refl
none_kept names (w ∷ ws) h = rw h.0 (none_kept names ws h.1)

-- a gate drives each output of a model that shows no undefined name
pub none_idle : (lines : List WordLine) (seen : Seen) → AreFaultless None lines seen → undefined_output (seen.inputs ++ seen.driven) lines ≡ None → idle seen seen.outputs ≡ []
none_idle lines seen f shows =
    let known = subst (AllByRecursion (λ w. is_among w (seen.inputs ++ seen.driven) ≡ true)) (sym (outputs_are lines seen f)) (shows_known (seen.inputs ++ seen.driven) lines shows) in
    none_kept seen.driven seen.outputs (recursion_from_All (λ w. is_among w seen.driven ≡ true) seen.outputs (λ k d lt.
    let w = get_or seen.outputs k d in
    sym (ap (λ (b : Bool). b || is_among w seen.driven) ((sound_is lines seen f).outputs_new k d lt)) ∙ sym (among_both w seen.inputs seen.driven) ∙ All-from_recursion (λ v. is_among v (seen.inputs ++ seen.driven) ≡ true) seen.outputs known k d lt))

pub model_few : (lines : List WordLine) (seen : Seen) → AreFaultless None lines seen → undefined_output (seen.inputs ++ seen.driven) lines ≡ None → length seen.driven + length (idle seen seen.outputs) ≤ GATES
model_few lines seen f shows = omega (arith, ap length (none_idle lines seen f shows), few_driven lines seen f)

pub placed_said : (last : ℕ) (lines : List WordLine) (seen : Seen) (name : List ℕ) → AreFaultless None lines seen → 0 < length seen.inputs → 0 < length seen.outputs → undefined_pin (seen.inputs ++ seen.driven) lines ≡ None
    → undefined_output (seen.inputs ++ seen.driven) lines ≡ None → name ≡ unwrap_or seen.model (codes "unnamed") → lines_say last lines ≡ placed_net name lines seen
placed_said last lines seen name f i o reads shows is =
    let gs = placed seen.inputs (gates lines) in
    let same : part_gates (declared_in seen) (gates lines) ≡ gs = gates_are lines seen f ∙ ap (λ (ws : List Word). gs ++ map constant_0 ws) (none_idle lines seen f shows) ∙ append-nil gs in
    both_some last lines seen f i o ∙ rw (reads, shows) refl
    ∙ ap₂ (λ (m : Word) (us : List NamedGate). judged (unplaced (outs gs) lines) (net_of m seen.inputs seen.outputs us)) (sym (model_is lines seen f) ∙ sym is) (sym same)

-- ---- the answers of a don't care part

pub part_fault_is : {X : Type 0} (lines : List WordLine) (seen : Seen) (model : Declared) → AreFaultless (Some model) lines seen → (said : X)
    → judged (part_fault (declared_in seen) lines) said ≡ judged (option_or (undefined_pin (seen.inputs ++ seen.driven) lines) (unplaced (outs (placed seen.inputs (gates lines))) lines)) said
part_fault_is lines seen model f said = ap (λ (d : List Word). judged (option_or (undefined_pin (seen.inputs ++ d) lines) (unplaced (outs (placed seen.inputs (gates lines))) lines)) said) (outs_are lines seen f)

pub part_reads : (name : List ℕ) (lines : List WordLine) (seen : Seen) (e : TextErr BlifFault) → ArePart lines seen → Tells {X = Unit {0}} (undefined_pin (seen.inputs ++ seen.driven) lines) (Unit {0}) (Err e) → Gives (part_says name lines seen) (Err e)
part_reads name lines seen (errors.At n f) h found = part_fault_is lines seen h.model h.faultless _ ∙ rw found refl
part_reads name lines seen errors.Memory h found = tt

pub part_placed : (name : List ℕ) (lines : List WordLine) (seen : Seen) → ArePart lines seen → undefined_pin (seen.inputs ++ seen.driven) lines ≡ None → part_says name lines seen ≡ placed_net name lines seen
part_placed name lines seen h none = part_fault_is lines seen h.model h.faultless _ ∙ rw none refl

pub part_few : (lines : List WordLine) (seen : Seen) → ArePart lines seen → length seen.driven + length (idle seen seen.outputs) ≤ GATES
part_few lines seen h =
    let sound = sound_is lines seen h.faultless in
    omega (arith, sound.driven.few, few_kept (λ w. not (is_among w seen.driven)) seen.outputs, sound.outputs.few, few_lines h.faultless.limits)

-- ---- the lines with their faults

-- the first faulty line decides
pub line_fault : (limits : NetLimits) (last : ℕ) (lines : List WordLine) (e : TextErr BlifFault) → Tells {X = Unit {0}} (first_fault (faults limits None) [] lines) (Unit {0}) (Err e) → Gives (model_says limits last lines) (Err e)
line_fault limits last lines (errors.At n f) found = rw found refl
line_fault limits last lines errors.Memory found = tt

-- where no line has a fault the lines decide together
pub no_line_fault : (limits : NetLimits) (last : ℕ) (lines : List WordLine) → first_fault (faults limits None) [] lines ≡ None → model_says limits last lines ≡ lines_say last lines
no_line_fault limits last lines none = rw none refl
