-- `climb::pass_on` meets its contract.
use Rattle.std.proofs.Common.{refl, arith}
use Rattle.node.specs.WordLaws.{v-made}
use Rattle.climb.specs.Levels.{first-level}
use Rattle.climb.specs.ReceiveLaws.{coming_rest, climbed_rest}
use Rattle.climb.specs.PassLaws.{pass_coming, pass_up}
use Rattle.climb.proofs.pass_on.Goals as goal

pub clear_level-requires : goal.clear_level-requires
clear_level-requires c = first-level c.requires.parallel.long

pub receive-requires : goal.receive-requires
receive-requires c = coming_rest (pass_coming c.requires (rw (c.full_place.ensures, v-made c.args.with.now.ready 0 0) at c.log_node.ensures) c.clear_level.ensures)

pub overflow_add-result : goal.overflow_add-result
overflow_add-result c =
    let logged = rw (c.full_place.ensures, v-made c.args.with.now.ready 0 0) at c.log_node.ensures in
    omega (arith, (pass_coming c.requires logged c.clear_level.ensures).room, c.receive.ensures.next)

pub returns-clause-fits : goal.returns-clause-fits
returns-clause-fits c =
    let logged = rw (c.full_place.ensures, v-made c.args.with.now.ready 0 0) at c.log_node.ensures in
    omega (arith, (pass_coming c.requires logged c.clear_level.ensures).room, c.receive.ensures.next, c.log_node.auto.log)

pub returns-clause-passed : goal.returns-clause-passed
returns-clause-passed c =
    let logged = rw (c.full_place.ensures, v-made c.args.with.now.ready 0 0) at c.log_node.ensures in
    let room = (pass_coming c.requires logged c.clear_level.ensures).room in
    pass_up c.requires logged c.clear_level.ensures (climbed_rest 2 room c.receive.ensures refl)
