-- `climb::make_node` meets its contract.
use Rattle.node.specs.WordLaws.{v-made}
use Rattle.climb.proofs.make_node.Goals as goal

pub returns : goal.returns
returns c =
    let place = c.args.place in
    record { words = c.compress_node.ensures; logged = rw (v-made c.args.with.now.ready place.z place.p) at c.log_node.ensures }
