-- What the words of the command line ask for.
use Rattle.std.specs.Prelude.{ℕ, ◌^◌, Bool, ◌&&◌, ◌||◌, nat_le, nat_lt, Option, Some, None, option_map, is_some, List, [], ◌∷◌, length, codes, map, string_bytes, String, if◌then◌else◌, bytes_eq}
use Rattle.std.specs.List.{list_all}
use Rattle.std.specs.Option.{option_and_then, option_map_or}
use Rattle.std.specs.Str.Parse.{digits_value}
use Rattle.std.specs.declared.alloc.Global.{Global}
use Rattle.ae_base.specs.Cube.{Signs}
use Rattle.ae_base.specs.Form.{form_of}
use Rattle.ae_base.specs.Digits.{are_bits, is_digit, ones}
use Rattle.ae_base.specs.declared.limits.TheConstants.{SOURCE_LINES}
use Rattle.synth_core.specs.declared.settings.Choice.{Choice}
use Rattle.synth_core.specs.declared.settings.SourceKind.{SourceKind}
use Rattle.synth_core.specs.declared.settings.SourceKind.TheVariants.{Pla, Blif}
use Rattle.synth_core.specs.declared.settings.Choice.TheVariants.{Positive, Search, Given}
use Rattle.synth_core.specs.declared.settings.Settings.{Settings}
use Rattle.synth_cmd.specs.CommandLine.{Said, said}
use Rattle.ae_base.specs.declared.form.Form.TheVariants.{Reddy}
use Rattle.grading.specs.declared.report.Mode.{Mode}
use Rattle.grading.specs.declared.report.Mode.TheVariants as mode

-- where a source comes from: a file of this name, or the demo of this number
pub data Origin : Type 0 where
  File : (name : List ℕ) → Origin
  Demo : (number : ℕ) → Origin

pub data Asked : Type 0 where
  Refused : Asked
  Synth : Settings → (source : Origin) → (net vectors : List ℕ) → Asked
  Grade : Mode → (net vectors : List ℕ) → Asked

-- ---- values

-- the kind of a source's text that a word names
abbrev pub kind_of : List ℕ → Option SourceKind
kind_of word = if bytes_eq word (codes "pla") then Some Pla else if bytes_eq word (codes "blif") then Some Blif else None

-- the polarity that a word tells: 1 to SOURCE_LINES digits, of which the k-th is 1 where the literal of input k is plain
abbrev pub bits_of : List ℕ → Option Signs
bits_of word =
    if nat_lt 0 (length word) && (nat_le (length word) SOURCE_LINES && are_bits (length word) word) then Some (record { n = length word; plain = ones word }) else None

-- the choice of a polarity that a word names
abbrev pub choice_of : List ℕ → Option Choice
choice_of word =
    if bytes_eq word (codes "positive") then Some Positive else if bytes_eq word (codes "search") then Some Search else option_map (λ p. Given p) (bits_of word)

-- 1 to 10 digits
abbrev pub has_digits : List ℕ → Bool
has_digits word = nat_lt 0 (length word) && (nat_le (length word) 10 && list_all is_digit word)

-- the number that such a word tells, below 2 to the power of 31
abbrev pub number_of : List ℕ → Option ℕ
number_of word = if has_digits word && nat_lt (digits_value 10 word) (2 ^ 31) then Some (digits_value 10 word) else None

-- what an option's value says, or what is usual where it is not given
abbrev pub value_or : {X : Type 0} → (List ℕ → Option X) → X → Option (List ℕ) → Option X
value_or says usual value = option_map_or says value (Some usual)

-- ---- commands

-- the settings that the options ask for, each or none of them given
abbrev pub settings_of : Said → Option Settings
settings_of said = option_and_then (λ kind. option_and_then (λ form. option_map (λ polarity. record { kind = kind; form = form; polarity = polarity })
    (value_or choice_of Positive said.polarity)) (value_or form_of Reddy said.form)) (value_or kind_of Pla said.kind)

-- a synthesis of what comes from there, where it does and the settings stand
abbrev pub synth_of : Option Origin → (net vectors : List ℕ) → Option Settings → Asked
synth_of source net vectors settings = option_map_or (λ settings. option_map_or (λ source. Synth settings source net vectors) source Refused) settings Refused

-- `synth` of a file of a third name
abbrev pub file_of : (source net vectors : List ℕ) → Option Origin
file_of source net vectors = if bytes_eq source net || bytes_eq source vectors then None else Some (File source)

-- `demo`, whose text is a PLA; a kind is not asked for
abbrev pub demo_of : Option (List ℕ) → (number : List ℕ) → Option Origin
demo_of kind number = if is_some kind then None else option_map (λ number. Demo number) (number_of number)

-- the source of a synthesis by its mode
abbrev pub origin_of : Said → (source net vectors : List ℕ) → Option Origin
origin_of said source net vectors =
    if bytes_eq said.mode (codes "synth") then file_of source net vectors else if bytes_eq said.mode (codes "demo") then demo_of said.kind source else None

-- no option is given
abbrev pub has_options : Said → Bool
has_options said = is_some said.kind || (is_some said.form || is_some said.polarity)

-- `grade` or `check`, which have no options
abbrev pub pair_of : Said → (net vectors : List ℕ) → Asked
pair_of said net vectors =
    if has_options said then Refused else if bytes_eq said.mode (codes "grade") then Grade mode.Grade net vectors else if bytes_eq said.mode (codes "check") then Grade mode.Check net vectors else Refused

-- one of these, by the number of names; those of files differ as texts
abbrev pub command_by : Said → List (List ℕ) → Asked
command_by said (net ∷ vectors ∷ []) = if bytes_eq net vectors then Refused else pair_of said net vectors
command_by said (source ∷ net ∷ vectors ∷ []) = if bytes_eq net vectors then Refused else synth_of (origin_of said source net vectors) net vectors (settings_of said)
command_by said names = Refused

abbrev pub asked_by : List (List ℕ) → Asked
asked_by words = option_map_or (λ said. command_by said said.names) (said words) Refused

abbrev pub asked : List (String Global) → Asked
asked words = asked_by (map string_bytes words)
