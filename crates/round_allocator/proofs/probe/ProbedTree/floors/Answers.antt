use Rattle.round_allocator.proofs.Floors.{summed_floors}
use Rattle.round_allocator.proofs.probe.ProbedTree.floors.Goals as goal

pub returns : goal.returns
returns g c = record {
  taken = λ limit at. summed_floors c.self.inside.flat.now c.args.self.now c.args.node c.floor_sum.result c.place-place.result limit c.self.view_is c.nodes-nodes.ensures.flat c.place-place.ensures.place at c.floor_sum.ensures.sum;
}
