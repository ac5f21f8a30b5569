-- The text of a small network.
use Rattle.std.proofs.Common.{◌≡◌, true, false, [], ◌∷◌, codes, refl}
use Rattle.ae_base.specs.Cube.{whole}
use Rattle.ae_base.specs.Mask.{empty, has, with}
use Rattle.ae_net.specs.Network.{Network}
use Rattle.ae_net.specs.Blif.{blif_text}

-- constant 1, constant 0, and a gate by its OFF-set
three_gates : Network
three_gates = record {
  model = codes "m";
  inputs = codes "a" ∷ codes "b" ∷ [];
  outputs = 4 ∷ 3 ∷ [];
  gates =
      record { out = codes "k"; pins = []; rows = whole ∷ []; on = true }
      ∷ record { out = codes "z"; pins = []; rows = []; on = true }
      ∷ record { out = codes "f"; pins = 0 ∷ 1 ∷ 2 ∷ []; rows = record { pos = with empty 0; neg = with empty 1 } ∷ []; on = false }
      ∷ [];
}

three_gates_text : blif_text three_gates ≡ codes ".model m\n.inputs a b\n.outputs f z\n.names k\n1\n.names z\n.names a b k f\n10- 0\n.end\n"
unfolding blif_text three_gates whole empty has with
three_gates_text = refl
