-- The Reddy network of a list of expansions.
use Rattle.std.specs.Prelude.{ℕ, suc, ◌+◌, ◌-◌, ◌==◌, Bool, not, ◌&&◌, if◌then◌else◌, List, [], ◌∷◌, ◌++◌, length, map, filter, slice_index, nat_lt, codes}
use Rattle.std.specs.List.{list_any, flat_map, range_with_len}
use Rattle.std.specs.Fmt.{decimal}
use Rattle.ae_base.specs.Mask.{Set, has, empty, members, len}
use Rattle.ae_base.specs.Terms.{in_order}
use Rattle.ae_net.specs.declared.net.Gate.{Gate}
use Rattle.ae_net.specs.Network.{Network}
use Rattle.expansion.specs.Terms.{Terms, is_used}
use Rattle.ae_net.specs.Names.{Names, inner}
use Rattle.ae_net.specs.Gates.{inverter, buffer, exor, and_gate}

-- the place of an element of a list
abbrev pub place_of : List ℕ → ℕ → ℕ
place_of [] x = 0
place_of (y ∷ ys) x = if y == x then 0 else suc (place_of ys x)

-- the inputs of the network: those of the source, and then the control
abbrev pub lines : Terms → ℕ
lines e = suc e.polarity.n

-- a gate for each element of a list, by its place and the element
abbrev pub gates_for : (ℕ → ℕ → Gate) → ℕ → List ℕ → List Gate
gates_for gate i [] = []
gates_for gate i (x ∷ xs) = gate i x ∷ gates_for gate (suc i) xs

-- ---- literals

-- the used inputs that are complemented, in order
unfoldable pub turned : Terms → List ℕ
turned e = filter (λ j. is_used e j && not (has e.polarity.plain j)) (range_with_len 0 e.polarity.n)

-- the signal of the literal of input j: the input where it is plain, else its inverter
unfoldable pub literal_signal : Terms → ℕ → ℕ
literal_signal e j = if has e.polarity.plain j then j else lines e + place_of (turned e) j

abbrev pub inverters : ℕ → Terms → List Gate
inverters k e = gates_for (λ i j. inverter (inner k (codes "i" ++ decimal (suc j))) j) 0 (turned e)

-- ---- the control

abbrev pub has_one : List Set → Bool
has_one ts = list_any (λ t. t == empty) ts

-- the inverter of the control, where some output has the empty term
unfoldable pub control_gates : ℕ → Terms → List Gate
control_gates k e = if list_any has_one e.outs then inverter (inner k (codes "m")) e.polarity.n ∷ [] else []

-- where a chain starts: at the inverter of the control where the output has the empty term, else at the control
unfoldable pub start : Terms → List Set → ℕ
start e ts = if has_one ts then lines e + length (turned e) else e.polarity.n

-- ---- terms

-- it has two or more members
abbrev pub is_wide : Set → Bool
is_wide t = nat_lt 1 (len t)

-- in term order, once each, the terms of two or more members
unfoldable pub wide_terms : Terms → List Set
wide_terms e = in_order (filter is_wide (flat_map (λ ts. ts) e.outs))

-- the place of the first AND gate, and of the first chain
unfoldable pub and_place : Terms → ℕ
and_place e = length (turned e) + (if list_any has_one e.outs then 1 else 0)

unfoldable pub chain_place : Terms → ℕ
chain_place e = and_place e + length (wide_terms e)

-- the signal of a term: its AND gate, or its literal where it has one member
unfoldable pub term_signal : Terms → Set → ℕ
term_signal e t = if is_wide t then lines e + (and_place e + place_of (wide_terms e) t) else literal_signal e (slice_index (members t) 0)

abbrev pub and_gates : ℕ → Terms → List Gate
and_gates k e = gates_for (λ i t. and_gate (inner k (codes "t" ++ decimal (suc i))) (map (literal_signal e) (members t))) 0 (wide_terms e)

-- ---- chains

-- EXOR gates for a term and those after it, from the line y on. x inner EXOR gates stand before, and the first gate has the place i.
abbrev pub links : ℕ → Terms → List ℕ → ℕ → ℕ → ℕ → Set → List Set → List Gate
links k e out x i y t [] = exor out y (term_signal e t) ∷ []
links k e out x i y t (u ∷ us) = exor (inner k (codes "x" ++ decimal (suc x))) y (term_signal e t) ∷ links k e out (suc x) (suc i) (lines e + i) u us

-- EXOR gates for the terms, or a buffer where there is none
abbrev pub chain : ℕ → Terms → List ℕ → ℕ → ℕ → ℕ → List Set → List Gate
chain k e out x i y [] = buffer out y ∷ []
chain k e out x i y (t ∷ ts) = links k e out x i y t ts

-- the terms but the empty one
abbrev pub rest : List Set → List Set
rest ts = filter (λ t. not (t == empty)) ts

-- the number of gates of a chain but its last
abbrev pub inner_gates : List Set → ℕ
inner_gates ts = length (rest ts) - 1

abbrev pub chains : ℕ → Terms → ℕ → ℕ → List (List Set) → List (List ℕ) → List Gate
chains k e x i [] outs = []
chains k e x i (ts ∷ tss) [] = []
chains k e x i (ts ∷ tss) (out ∷ outs) = chain k e out x i (start e ts) (rest ts) ++ chains k e (x + inner_gates ts) (suc (i + inner_gates ts)) tss outs

-- the signals of the last gates of the chains
abbrev pub ends : Terms → ℕ → List (List Set) → List ℕ
ends e i [] = []
ends e i (ts ∷ tss) = (lines e + (i + inner_gates ts)) ∷ ends e (suc (i + inner_gates ts)) tss

-- ---- the network

unfoldable pub gates : ℕ → Names → Terms → List Gate
gates k names e = inverters k e ++ (control_gates k e ++ (and_gates k e ++ chains k e 0 (chain_place e) e.outs names.outputs))

-- the network whose inner names begin with k underscores
abbrev pub reddy_over : ℕ → Names → Terms → Network
reddy_over k names e = record {
  model = names.model;
  inputs = names.inputs ++ inner k (codes "c") ∷ [];
  outputs = ends e (chain_place e) e.outs;
  gates = gates k names e;
}
