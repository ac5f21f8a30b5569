-- For private contracts alone: the words as they were read, and the command that they ask for.
use Rattle.std.specs.Prelude.{◌≡◌, ◌≢◌, ⊤, [], ℕ, Err, List, Option, Some, None, codes, map, option_map, unwrap_or}
use Rattle.clap.specs.Words.{Text, fault_of, found_of, matches_of, rows_of}
use Rattle.clap.specs.declared.parser.matches.ArgMatches.{ArgMatches}
use Rattle.ae_base.specs.declared.form.Form.{Form}
use Rattle.demo_source.specs.Demo.{demo_text}
use Rattle.synth_core.specs.Asked.{HasTooMany}
use Rattle.synth_core.specs.Says.{source_says}
use Rattle.synth_core.specs.declared.fault.TextFault.{TextFault}
use Rattle.synth_core.specs.declared.settings.Settings.{Settings}
use Rattle.synth_core.specs.declared.settings.SourceKind.TheVariants.{Pla}
use Rattle.synth_cmd.specs.Asked.{Asked, Origin}
use Rattle.synth_cmd.specs.Asked.Asked.{Refused as asked_refused, Synth as asked_synth, Grade as asked_grade}
use Rattle.synth_cmd.specs.Asked.Origin.{File as from_file, Demo as from_demo}
use Rattle.synth_cmd.specs.CommandLine as line
use Rattle.synth_cmd.specs.declared.command_line.Said.{Said}
use Rattle.synth_cmd.specs.declared.words.Command.{Command}
use Rattle.synth_cmd.specs.declared.words.Command.TheVariants.{Refused, Synth, Grade}
use Rattle.synth_cmd.specs.declared.words.FileNames.{FileNames}
use Rattle.synth_cmd.specs.declared.words.Origin.{Origin as Source}
use Rattle.synth_cmd.specs.declared.words.Origin.TheVariants.{File, Demo}

-- the words are refused, or taken with these matches
abbrev pub IsParsed : List Text → Option ArgMatches → Type 0
IsParsed words None = fault_of line.command_line words ≢ []
IsParsed words (Some matches) = (fault_of line.command_line words ≡ []) × (rows_of (found_of matches) ≡ matches_of line.command_line words)

-- what was read
abbrev pub said_of : Said → line.Said
said_of said = record {
  mode = said.mode.now;
  names = unwrap_or (option_map (λ names. map (λ name. name.now) names.now) said.names) [];
  kind = option_map (λ word. word.now) said.kind;
  form = option_map (λ word. word.now) said.form;
  polarity = option_map (λ word. word.now) said.polarity;
}

abbrev pub source_of : Source → Origin
source_of (File name) = from_file name.now
source_of (Demo number) = from_demo number

-- `synth` or `demo` with these settings and names
abbrev pub synth_asked : Settings → FileNames → Asked
synth_asked settings names = asked_synth settings (source_of names.source) names.net.now names.vectors.now

abbrev pub command_of : Command → Asked
command_of Refused = asked_refused
command_of (Synth settings names) = synth_asked settings names
command_of (Grade mode names) = asked_grade mode names.net.now names.vectors.now

-- the name that a source is refused by
abbrev pub name_of : Origin → List ℕ
name_of (from_file name) = name
name_of (from_demo number) = codes "demo"

-- the text of a demo is a PLA
abbrev pub HasKind : Settings → Origin → Type 0
HasKind settings (from_file name) = ⊤
HasKind settings (from_demo number) = settings.kind ≡ Pla

-- the text of a demo of a form has no fault as a PLA, and not too many terms
abbrev pub IsAcceptedDemo : Form → Origin → Type 0
IsAcceptedDemo form (from_file name) = ⊤
IsAcceptedDemo form (from_demo number) =
    ((line : ℕ) (what : TextFault) → source_says Pla (demo_text number form) ≢ Err (line, what))
    × ((settings : Settings) (output : ℕ) → settings.kind ≡ Pla → settings.form ≡ form → ¬ (HasTooMany settings (demo_text number form) output))

-- the names of the two files that are a pair differ, and a demo is a PLA
abbrev pub IsFit : Asked → Type 0
IsFit asked_refused = ⊤
IsFit (asked_synth settings source net vectors) = (net ≢ vectors) × HasKind settings source
IsFit (asked_grade mode net vectors) = net ≢ vectors
