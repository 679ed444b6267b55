use Rattle.std.proofs.Common.{ℕ, sym, subst}
use Rattle.std.specs.List.{AllByRecursion}
use Rattle.geo_state.specs.declared.state.State.{State}
use Rattle.geo_state.specs.Bios.{IsNoHandles}
use Rattle.geo_state.proofs.Moves.{split-only, split-kept, through-live, through-few}
use Rattle.geo_state.proofs.splits.split.Goals as goal

-- each target stands, and its count and the number of pieces are below 2^62, so no count passes 2^63
pub note_all-requires : goal.note_all-requires
note_all-requires c =
    let s : State = c.args.state.now in
    record {
      live =
          through-live s _
          (subst (AllByRecursion (λ (z : ℕ × ℕ). IsNoHandles s z.0)) (sym c.items-pairs.ensures) c.requires.through);
      few =
          through-few s _ (c.have_counts.ensures.few c.if-not-have_counts.false)
          (c.have_counts.ensures.counts c.if-not-have_counts.false);
    }

pub returns-clause-only : goal.returns-clause-only
returns-clause-only c =
    split-only c.args.state.now c.start.new.self c.note_all.new.topo c.args.bio c.args.pieces.now.items
    c.args.targets.now.items c.start.ensures.in_order.numbers c.requires.down c.requires.same_number c.requires.through
    c.in_ok-first.ensures.split c.note_all.ensures c.items-pairs.ensures

-- the bio went to no disk and its children go through consumers that no handle has, so no actor has one more out
pub returns-clause-kept : goal.returns-clause-kept
returns-clause-kept c =
    split-kept c.args.state.now c.start.new.self c.note_all.new.topo c.args.bio c.args.pieces.now.items
    c.args.targets.now.items c.start.ensures.in_order.numbers c.requires.down c.requires.same_number c.requires.through
    c.in_ok-first.ensures.split c.note_all.ensures c.items-pairs.ensures c.requires.kept
