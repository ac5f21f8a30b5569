-- Which error a pair of texts has: each cause excludes the others.
use Rattle.std.proofs.Common.{◌≡◌, ◌⊎◌, inl, inr, ℕ, List, refl, sym, ap, ◌∙◌, subst}
use Rattle.std.specs.Prelude.{Result, Ok, Err}
use Rattle.ae_net.specs.Network.{Network}
use Rattle.blif_read.specs.Says.{blif_says}
use Rattle.blif_read.specs.declared.fault.BlifFault.{BlifFault}
use Rattle.blif_read.specs.declared.fault.NetLimits.TheVariants.{Written}
use Rattle.grading.specs.Pair.{AreGradable, HasOtherNames, HasVectorFault, HaveSameNames, IsPair}
use Rattle.grading.specs.declared.pair_error.PairErr.{PairErr}
use Rattle.grading.specs.declared.pair_error.PairErr.TheVariants as err
use Rattle.vec_text.specs.Says.{vec_says}
use Rattle.vec_text.specs.VectorFile.{VectorFile}
use Rattle.vec_text.specs.declared.fault.VecFault.{VecFault}

-- what an error of a pair tells of its texts
pub record Tells (net_bytes vec_bytes : List ℕ) (e : PairErr) : Type 0 where
  pub blif : (line : ℕ) (what : BlifFault) → e ≡ err.Blif line what → blif_says Written net_bytes ≡ Err (line, what)
  pub vector : (line : ℕ) (what : VecFault) → e ≡ err.Vector line what → HasVectorFault net_bytes vec_bytes line what
  pub names : e ≡ err.NamesDiffer → HasOtherNames net_bytes vec_bytes

one_blif : (said : Result Network (ℕ × BlifFault)) (a b : ℕ × BlifFault) → said ≡ Err a → said ≡ Err b → a ≡ b
one_blif said a b x y = let both = sym x ∙ y in cc both

one_vector : (said : Result VectorFile (ℕ × VecFault)) (a b : ℕ × VecFault) → said ≡ Err a → said ≡ Err b → a ≡ b
one_vector said a b x y = let both = sym x ∙ y in cc both

pub one_net : (bytes : List ℕ) (a b : Network) → blif_says Written bytes ≡ Ok a → blif_says Written bytes ≡ Ok b → a ≡ b
one_net bytes a b x y = let both = sym x ∙ y in cc both

pub one_file : (bytes : List ℕ) (a b : VectorFile) → vec_says bytes ≡ Ok a → vec_says bytes ≡ Ok b → a ≡ b
one_file bytes a b x y = let both = sym x ∙ y in cc both

module _ (net_bytes vec_bytes : List ℕ) where
  pub no_net : (line : ℕ) (what : BlifFault) (n : Network) → blif_says Written net_bytes ≡ Err (line, what) → blif_says Written net_bytes ≡ Ok n → ⊥
  no_net line what n a b = let both = sym a ∙ b in cc both

  pub no_file : (line : ℕ) (what : VecFault) (file : VectorFile) → vec_says vec_bytes ≡ Err (line, what) → vec_says vec_bytes ≡ Ok file → ⊥
  no_file line what file a b = let both = sym a ∙ b in cc both

  -- a pair with other names is none with the same
  pub not_other : (n : Network) (file : VectorFile) → IsPair net_bytes vec_bytes n file → HasOtherNames net_bytes vec_bytes → ⊥
  not_other n file pair other =
      let net = one_net net_bytes n other.net pair.say.net_says other.say.net_says in
      let vectors = one_file vec_bytes file other.file pair.say.file_says other.say.file_says in
      other.differ (subst (λ m. HaveSameNames m other.file) net (subst (λ f. HaveSameNames n f) vectors pair.names))

  -- ---- where a cause stands, the error is that of the cause, or memory is wanting

  pub is_blif : (e : PairErr) → Tells net_bytes vec_bytes e → (line : ℕ) (what : BlifFault) → blif_says Written net_bytes ≡ Err (line, what) → (e ≡ err.Blif line what) ⊎ (e ≡ err.Memory)
  is_blif (err.Blif l w) tells line what says = inl (ap (λ q. err.Blif q.0 q.1) (one_blif (blif_says Written net_bytes) (l, w) (line, what) (tells.blif l w refl) says))
  is_blif (err.Vector l w) tells line what says = let h = tells.vector l w refl in absurd (no_net line what h.net says h.net_says)
  is_blif err.NamesDiffer tells line what says = let h = tells.names refl in absurd (no_net line what h.net says h.say.net_says)
  is_blif err.Memory tells line what says = inr refl

  pub is_vector : (e : PairErr) → Tells net_bytes vec_bytes e → (line : ℕ) (what : VecFault) → HasVectorFault net_bytes vec_bytes line what → (e ≡ err.Vector line what) ⊎ (e ≡ err.Memory)
  is_vector (err.Blif l w) tells line what fault = absurd (no_net l w fault.net (tells.blif l w refl) fault.net_says)
  is_vector (err.Vector l w) tells line what fault = inl (ap (λ q. err.Vector q.0 q.1) (one_vector (vec_says vec_bytes) (l, w) (line, what) (tells.vector l w refl).file_says fault.file_says))
  is_vector err.NamesDiffer tells line what fault = let h = tells.names refl in absurd (no_file line what h.file fault.file_says h.say.file_says)
  is_vector err.Memory tells line what fault = inr refl

  pub is_names : (e : PairErr) → Tells net_bytes vec_bytes e → HasOtherNames net_bytes vec_bytes → (e ≡ err.NamesDiffer) ⊎ (e ≡ err.Memory)
  is_names (err.Blif l w) tells other = absurd (no_net l w other.net (tells.blif l w refl) other.say.net_says)
  is_names (err.Vector l w) tells other = absurd (no_file l w other.file (tells.vector l w refl).file_says other.say.file_says)
  is_names err.NamesDiffer tells other = inl refl
  is_names err.Memory tells other = inr refl

  -- a pair has no cause
  pub is_memory : (e : PairErr) → Tells net_bytes vec_bytes e → AreGradable net_bytes vec_bytes → e ≡ err.Memory
  is_memory (err.Blif l w) tells pair = absurd (no_net l w pair.net (tells.blif l w refl) pair.pair.say.net_says)
  is_memory (err.Vector l w) tells pair = absurd (no_file l w pair.file (tells.vector l w refl).file_says pair.pair.say.file_says)
  is_memory err.NamesDiffer tells pair = absurd (not_other pair.net pair.file pair.pair (tells.names refl))
  is_memory err.Memory tells pair = refl
