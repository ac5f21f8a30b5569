-- What the words of a line of a PLA text say.
use Rattle.std.specs.Prelude.{ℕ, ◌==◌, Bool, not, ◌&&◌, ◌||◌, if◌then◌else◌, List, [], ◌∷◌, length, take, drop, map, filter, codes, Option, Some, None, is_some, unwrap_or}
use Rattle.std.specs.List.{list_all, flat_map}
use Rattle.std.specs.Str.{bytes_eq}
use Rattle.ae_base.specs.Digits.{value, is_number, cube_said}
use Rattle.ae_base.specs.Name.{is_source_name}
use Rattle.ae_base.specs.Twins.{is_among}
use Rattle.ae_cover.specs.declared.parts.Kind.{Kind}
use Rattle.ae_cover.specs.declared.parts.Kind.TheVariants.{F, Fd, Fr, Fdr}
use Rattle.ae_cover.specs.declared.parts.Mark.{Mark}
use Rattle.ae_cover.specs.declared.parts.Mark.TheVariants.{One, Zero, Dash, Void}
use Rattle.ae_cover.specs.declared.parts.Row.{Row}
use Rattle.ae_lex.specs.Heads.{Word, word, heads}

-- nothing is read from this line on
abbrev pub is_end : List Word → Bool
is_end line = heads (codes ".e") line || heads (codes ".end") line

-- a header of other PLA dialects
abbrev pub is_unsupported : Word → Bool
is_unsupported header = is_among header (codes ".phase" ∷ codes ".pair" ∷ codes ".symbolic" ∷ codes ".mv" ∷ codes ".kiss" ∷ codes ".label" ∷ [])

-- ---- the words after a header

-- one number
abbrev pub is_count : List Word → Bool
is_count words = length words == 1 && is_number (word words 0)

abbrev pub count_said : List Word → ℕ
count_said words = value (word words 0)

abbrev pub kind_at : Word → Option Kind
kind_at word =
    if bytes_eq word (codes "f") then Some F
    else if bytes_eq word (codes "fd") then Some Fd
    else if bytes_eq word (codes "fr") then Some Fr
    else if bytes_eq word (codes "fdr") then Some Fdr
    else None

-- one of the four kinds
abbrev pub is_kind : List Word → Bool
is_kind words = length words == 1 && is_some (kind_at (word words 0))

abbrev pub kind_said : List Word → Kind
kind_said words = unwrap_or (kind_at (word words 0)) Fd

-- so many names
unfoldable pub are_names : ℕ → List Word → Bool
are_names n words = length words == n && list_all is_source_name words

-- ---- rows

-- the characters of a row: those of its words in order without '|'
abbrev pub joined : List Word → List ℕ
joined words = flat_map (filter (λ b. not (b == 124))) words

-- '0', '1', '-' or '2'
abbrev pub is_input : ℕ → Bool
is_input b = b == 48 || b == 49 || b == 45 || b == 50

-- '0', '1', '-', '2', '3', '4' or '~'
abbrev pub is_output : ℕ → Bool
is_output b = b == 48 || b == 49 || b == 45 || b == 50 || b == 51 || b == 52 || b == 126

-- '1' and '4' are One, '0' is Zero, '-' and '2' are Dash, '3' and '~' are Void
abbrev pub mark : ℕ → Mark
mark b = if b == 49 then One else if b == 52 then One else if b == 48 then Zero else if b == 45 then Dash else if b == 50 then Dash else Void

-- the row of n inputs that characters say: '1' is the plain literal, '0' the complemented one, '-' and '2' none
unfoldable pub row_of : ℕ → List ℕ → Row
row_of n chars = record { cube = cube_said (take n chars); outs = map mark (drop n chars) }
