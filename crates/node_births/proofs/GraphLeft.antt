-- What all nodes leave makes the grown graph.
use Rattle.node_births.proofs.BirthsLeft.{all-born, births-left, ungrown-left}
use Rattle.node_births.proofs.FlawsLeft.{flaw-left}
use Rattle.node_births.proofs.NodesLeft.{graph-is}
use Rattle.node_births.proofs.PlacesLeft.{ends-born, places-left}
use Rattle.node_births.proofs.Imports.{GraphLeftLaw}

pub graph-left : GraphLeftLaw
graph-left g nodes after h = record {
  are = births-left h;
  graph = graph-is h;
  all = all-born h;
  ungrown = ungrown-left h;
  flaw = λ n f growth lt born k. flaw-left h n lt born f growth k;
  ends_born = ends-born h;
  places = places-left h;
}
