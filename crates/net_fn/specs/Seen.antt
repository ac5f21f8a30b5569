-- What the readers of signals see of their functions. For private contracts alone.
use Rattle.std.specs.Prelude.{◌≡◌, ℕ, ◌<◌, Bool, Option, Some, List, length, slice_index}
use Rattle.ae_base.specs.Mask.{Set}
use Rattle.ae_net.specs.declared.net.Place.{Place}
use Rattle.ae_net.specs.declared.net.Place.TheVariants.{Pin, Port}
use Rattle.ae_net.specs.declared.net.Fault.{Fault}
use Rattle.ae_net.specs.Run.{seen}
use Rattle.fn_store.specs.Functions.{Functions, AgreeAt}
use Rattle.fn_store.specs.declared.store.FnRef.{FnRef}
use Rattle.net_fn.specs.Refs.{AreLive, ShowEach}
use Rattle.net_fn.specs.declared.nets.Readers.{Readers}
use Rattle.net_fn.specs.declared.nets.Readers.TheVariants.{Pins, Ports}

-- the place of the reader at a position
abbrev pub place_of : Readers → ℕ → Place
place_of (Pins gate) k = Pin gate k
place_of Ports k = Port k

-- References for the first k readers, each for what it sees at its place of the function of the signal that it reads.
pub record ShowSeen (s : Functions) (fault : Option Fault) (readers : Readers) (read : List ℕ) (signals : List FnRef) (k : ℕ) (refs : List FnRef) : Type 0 where
  pub count : length refs ≡ k
  pub live : AreLive s refs
  pub shows : (fs : ℕ → Set → Bool) → ShowEach s signals fs → ShowEach s refs (λ k x. seen fault (place_of readers k) (fs (slice_index read k) x))

-- each pin of the gate in place i sees with the fault, of the functions fs of the signals with it, what it sees without it, of those in gs
abbrev pub SeeAlike : ℕ → Fault → ℕ → List ℕ → (ℕ → Set → Bool) → (ℕ → Set → Bool) → Type 0
SeeAlike n fault i pins fs gs = (k : ℕ) → k < length pins → AgreeAt n (λ x. seen (Some fault) (Pin i k) (fs (slice_index pins k) x)) (gs (slice_index pins k))
