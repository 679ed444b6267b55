-- Tasting, one step at a time: which class is asked, which sector is read, and what comes of it (geom(4)).
use Rattle.std.specs.Prelude.{ℕ, ◌+◌, ◌*◌, ◌/◌, Bool, false, not, ◌&&◌, ◌||◌, List, [], ◌∷◌, Some, None, is_some, if◌then◌else◌}
use Rattle.std.specs.List.{list_any}
use Rattle.std.specs.Option.{option_map_or}
use Rattle.geo_base.specs.declared.request.BioCmd.TheVariants as cmds
use Rattle.geo_base.specs.declared.request.Counts.{Counts}
use Rattle.geo_base.specs.declared.kind.Kind.{Kind}
use Rattle.geo_base.specs.declared.kind.Kind.TheVariants as kinds
use Rattle.geo_model.specs.declared.class.Facts.{Facts}
use Rattle.geo_model.specs.declared.class.Judged.{Judged}
use Rattle.geo_model.specs.declared.class.Judged.TheVariants.{Read, Next, Made, Ended}
use Rattle.geo_model.specs.declared.class.Verdict.{Verdict}
use Rattle.geo_model.specs.declared.class.Verdict.TheVariants.{Decline, More, Accept}
use Rattle.geo_model.specs.declared.step.BioResult.{BioResult}
use Rattle.geo_model.specs.declared.step.BioResult.TheVariants as results
use Rattle.geo_model.specs.declared.step.Outcome.{Outcome}
use Rattle.geo_model.specs.declared.step.Outcome.TheVariants as outcomes
use Rattle.geo_model.specs.declared.step.Owner.TheVariants as owners
use Rattle.geo_model.specs.Words.{is_kind, names_number}
use Rattle.geo_model.specs.Topology.{Topology, Geom, Provider, geom_at, provider_at, consumer_at, consumers_of, is_errored, remove_consumer}
use Rattle.geo_model.specs.Demand.{one_read}
use Rattle.geo_model.specs.Opens.{grant_refusal, with_grant}
use Rattle.geo_model.specs.World.{World, Config, Taste, Asked, NoClass, NextSector, ReadOut, ReadBack, granted_in}
use Rattle.geo_model.specs.Bios.{submit}
use Rattle.geo_model.specs.Events.{QueuedTopology}
use Rattle.geo_model.specs.WorldEvents.{queued_of, with_queued}
use Rattle.geo_model.specs.Acceptance.{taste_where, judge, accept}
use Rattle.geo_model.specs.Chain.{no_links, with_link, feed}

-- One step of a taste

-- the facts of the tasted provider; each provider of a sound world has its geom
abbrev pub facts_of : Topology Config → Provider → Facts
facts_of t p = record {
  kind = option_map_or (λ g. g.kind) (geom_at t p.geom) kinds.Disk;
  sector = p.sector;
  sectors = p.size / p.sector;
}

-- the state after a step, the taste, and what it came to
pub record Judging : Type 0 where
  pub queued : QueuedTopology Config
  pub taste : Taste
  pub judged : Judged

-- whether a geom has a consumer attached to the provider
abbrev pub is_over : Topology Config → ℕ → Geom Config → Bool
is_over t p g = list_any (λ c. names_number c.provider p) (consumers_of t g.number)

-- whether the class has a geom that isn't withering over the provider already
abbrev pub is_attached_class : Topology Config → Kind → ℕ → Bool
is_attached_class t kind p = list_any (λ g. is_kind g.kind kind && (not g.withering && is_over t p g)) t.geoms

-- whether the taste can't go on: its provider carries an error, or its consumer is marked
abbrev pub is_ended : Topology Config → Taste → Bool
is_ended t s = is_errored t s.provider || option_map_or (λ c. c.spoiled) (consumer_at t s.consumer) false

-- granted tells what each consumer of DEV and TASTE was granted
module _ (granted : ℕ → Counts) where
  -- the class that is asked is done with
  abbrev pub end_class : QueuedTopology Config → Taste → Judged → Judging
  end_class q s judged = record {
    queued = q;
    taste = record s { asked = NoClass; reads = 0; chain = no_links };
    judged = judged;
  }

  -- the taste ends
  abbrev pub end_taste : QueuedTopology Config → Taste → Judging
  end_taste q s = record { queued = q; taste = s; judged = Ended }

  -- the read of a sector is granted; a refused grant ends the class
  abbrev pub read_sector : QueuedTopology Config → Taste → Kind → ℕ → Judging
  read_sector q s kind sector =
      if is_some (grant_refusal (with_grant granted s.consumer one_read) q.topology s.provider)
      then end_class q s Next
      else record { queued = q; taste = record s { asked = ReadOut kind; reads = s.reads + 1 }; judged = Read sector }

  -- the verdict on a sector that was read
  abbrev pub follow : QueuedTopology Config → Taste → Provider → Kind → Verdict → Judging
  follow q s p kind (Decline cause) = end_class q s Next
  follow q s p kind (More sector) =
      record { queued = q; taste = record s { asked = NextSector kind sector }; judged = Next }
  follow q s p kind (Accept shape) =
      option_map_or (λ made. end_class made s Made) (accept q p shape) (end_class q s Next)

  -- the taste, where EBR keeps the link that was read
  abbrev pub with_read : Taste → Kind → List ℕ → Facts → Taste
  with_read s kinds.Ebr bytes f = record s { chain = with_link f.sectors s.chain bytes }
  with_read s _ bytes f = s

  -- what the class says to the sector; EBR judges it together with the links that were read
  abbrev pub verdict_on : Taste → Kind → List ℕ → Facts → Verdict
  verdict_on s kinds.Ebr bytes f = feed f.sectors s.chain bytes
  verdict_on s kind bytes f = judge kind bytes f

  -- a read is back; a failed one is a decline
  abbrev pub take_result : QueuedTopology Config → Taste → Provider → Kind → BioResult → Judging
  take_result q s p kind (results.Bytes bytes) =
      let f : Facts = facts_of q.topology p in
      follow q (with_read s kind bytes f) p kind (verdict_on s kind bytes f)
  take_result q s p kind _ = end_class q s Next

  -- the next class is asked, or passed over
  abbrev pub ask_class : QueuedTopology Config → Taste → Provider → Kind → List Kind → Judging
  ask_class q s p kind rest =
      let left : Taste = record s { classes = rest; asked = NoClass; reads = 0; chain = no_links } in
      if is_attached_class q.topology kind s.provider
      then end_class q left Next
      else option_map_or (λ sector. read_sector q left kind sector) (taste_where kind (facts_of q.topology p))
      (end_class q left Next)

  abbrev pub next_class : QueuedTopology Config → Taste → Provider → List Kind → Judging
  next_class q s p [] = end_taste q s
  next_class q s p (kind ∷ rest) = ask_class q s p kind rest

  -- the first that applies: a result to judge, a sector to read, a class to ask, the end
  abbrev pub go_on : QueuedTopology Config → Taste → Provider → Asked → Judging
  go_on q s p (ReadBack kind got) = take_result q s p kind got
  go_on q s p (NextSector kind sector) = read_sector q s kind sector
  go_on q s p (ReadOut kind) = record { queued = q; taste = s; judged = Next }
  go_on q s p NoClass = next_class q s p s.classes

  -- one step of the taste
  abbrev pub taste_step : QueuedTopology Config → Taste → Judging
  taste_step q s =
      if is_ended q.topology s
      then end_taste q s
      else option_map_or (λ p. go_on q s p s.asked) (provider_at q.topology s.provider) (end_taste q s)

-- In the whole state

-- the taste's consumer is detached and destroyed
abbrev pub abort_taste : World → Taste → World
abort_taste w s = record w { topology = remove_consumer w.topology s.consumer; taste = None }

-- the read of a sector is submitted; the tasted provider of a sound world is there
abbrev pub submit_read : World → Taste → ℕ → World
submit_read w s sector =
    let size : ℕ = option_map_or (λ p. p.sector) (provider_at w.topology s.provider) 512 in
    submit w cmds.Read (sector * size) size [] s.consumer s.provider owners.Taste

abbrev pub judged_world : World → Judging → Judged → World × Outcome
judged_world w x (Read sector) =
    (submit_read (record (with_queued w x.queued) { taste = Some x.taste }) x.taste sector, outcomes.Reading w.next_bio)
judged_world w x Ended = (abort_taste w x.taste, outcomes.Ran)
judged_world w x _ = (record (with_queued w x.queued) { taste = Some x.taste }, outcomes.Ran)

unfoldable pub judge_step : World → Taste → World × Outcome
judge_step w s =
    let x : Judging = taste_step (granted_in w) (queued_of w) s
    in judged_world w x x.judged
