use Rattle.geo_moves.proofs.Lengthened.{is-larger, larger-is}
use Rattle.geo_moves.proofs.growths.grow_provider.Goals as goal

-- the mesh with both changes is the larger one, and each note and the Resize took a place of the queue
pub returns : goal.returns
returns c =
    is-larger c.args.topo.now c.args.queue.now c.args.growing.now c.args.config c.args.size c.announce_risen.new.topo
    c.announce_risen.new.queue c.post.new.self c.post.ensures c.requires.room c.set_size.new.self
    (larger-is c.args.topo.now c.args.queue.now c.args.growing.now c.args.config c.args.size c.swap_config.new.self
    c.set_size.new.self c.swap_config.ensures.swapped c.set_size.ensures)
    c.announce_risen.ensures.announced c.announce_risen.ensures.rest c.announce_risen.ensures.room
    c.announce_risen.ensures.kept
