-- A step of a taste keeps names: what a class accepts has names.
use Rattle.std.specs.Prelude.{◌≡◌, ℕ, ◌+◌, List, [], ◌∷◌, Option, Some, None, IfSome, is_some}
use Rattle.std.specs.Option.{option_map_or}
use Rattle.std.proofs.Common.{subst}
use Rattle.geo_base.specs.declared.kind.Kind.{Kind}
use Rattle.geo_base.specs.declared.request.Counts.{Counts}
use Rattle.geo_model.specs.declared.class.Facts.{Facts}
use Rattle.geo_model.specs.declared.class.Judged.{Judged}
use Rattle.geo_model.specs.declared.class.Judged.TheVariants.{Read, Next, Made, Ended}
use Rattle.geo_model.specs.declared.class.Verdict.{Verdict}
use Rattle.geo_model.specs.declared.class.Verdict.TheVariants.{Decline, More, Accept}
use Rattle.geo_model.specs.declared.step.BioResult.{BioResult}
use Rattle.geo_model.specs.declared.step.BioResult.TheVariants as results
use Rattle.geo_model.specs.Topology.{Provider, provider_at}
use Rattle.geo_model.specs.Demand.{one_read}
use Rattle.geo_model.specs.Opens.{grant_refusal, with_grant}
use Rattle.geo_model.specs.World.{World, Config, Taste, Asked, NoClass, NextSector, ReadOut, ReadBack, granted_in}
use Rattle.geo_model.specs.Events.{QueuedTopology}
use Rattle.geo_model.specs.WorldEvents.{queued_of}
use Rattle.geo_model.specs.Acceptance.{taste_where, accept}
use Rattle.geo_model.specs.Chain.{no_links}
use Rattle.geo_model.specs.Tasting.{Judging, facts_of, is_attached_class, is_ended, end_class, end_taste, read_sector, follow, with_read, verdict_on, take_result, next_class, go_on, taste_step, judged_world}
use Rattle.geo_laws_texts.proofs.Lists.{either}
use Rattle.geo_laws_texts.proofs.Graphs.{QueueNamed}
use Rattle.geo_laws_texts.proofs.Worlds.{KeepsNames}
use Rattle.geo_laws_texts.proofs.Accepted.{accept_named_all}

module _ (granted : ℕ → Counts) (q : QueuedTopology Config) (named : QueueNamed q) where
  -- in the graph to which the taste came
  abbrev GoesOn : Judging → Type 0
  GoesOn x = QueueNamed x.queued

  sector_goes : (s : Taste) (kind : Kind) (sector : ℕ) → GoesOn (read_sector granted q s kind sector)
  sector_goes s kind sector =
      let out : Judging = record {
        queued = q;
        taste = record s { asked = ReadOut kind; reads = s.reads + 1 };
        judged = Read sector;
      } in
      either GoesOn (end_class granted q s Next) out
      (is_some (grant_refusal (with_grant granted s.consumer one_read) q.topology s.provider)) named named

  made_goes : (s : Taste) (o : Option (QueuedTopology Config)) → IfSome o QueueNamed
      → GoesOn (option_map_or (λ made. end_class granted made s Made) o (end_class granted q s Next))
  made_goes s None made = named
  made_goes s (Some r) made = made

  verdict_goes : (s : Taste) (p : Provider) (kind : Kind) (v : Verdict) → GoesOn (follow granted q s p kind v)
  verdict_goes s p kind (Decline cause) = named
  verdict_goes s p kind (More sector) = named
  verdict_goes s p kind (Accept shape) = made_goes s (accept q p shape) (accept_named_all q named p shape)

  result_goes : (s : Taste) (p : Provider) (kind : Kind) (got : BioResult)
      → GoesOn (take_result granted q s p kind got)
  result_goes s p kind (results.Bytes bytes) =
      let f : Facts = facts_of q.topology p in
      verdict_goes (with_read granted s kind bytes f) p kind (verdict_on granted s kind bytes f)
  result_goes s p kind results.Done = named
  result_goes s p kind (results.Failed e) = named

  asks_goes : (s : Taste) (kind : Kind) (o : Option ℕ)
      → GoesOn (option_map_or (λ sector. read_sector granted q s kind sector) o (end_class granted q s Next))
  asks_goes s kind None = named
  asks_goes s kind (Some sector) = sector_goes s kind sector

  class_goes : (s : Taste) (p : Provider) (rest : List Kind) → GoesOn (next_class granted q s p rest)
  class_goes s p [] = named
  class_goes s p (kind ∷ rest) =
      let left : Taste = record s { classes = rest; asked = NoClass; reads = 0; chain = no_links } in
      either GoesOn (end_class granted q left Next)
      (option_map_or (λ sector. read_sector granted q left kind sector) (taste_where kind (facts_of q.topology p))
      (end_class granted q left Next))
      (is_attached_class q.topology kind s.provider) named
      (asks_goes left kind (taste_where kind (facts_of q.topology p)))

  asked_goes : (s : Taste) (p : Provider) (a : Asked) → GoesOn (go_on granted q s p a)
  asked_goes s p (ReadBack kind got) = result_goes s p kind got
  asked_goes s p (NextSector kind sector) = sector_goes s kind sector
  asked_goes s p (ReadOut kind) = named
  asked_goes s p NoClass = class_goes s p s.classes

  there_goes : (s : Taste) (o : Option Provider)
      → GoesOn (option_map_or (λ p. go_on granted q s p s.asked) o (end_taste granted q s))
  there_goes s None = named
  there_goes s (Some p) = asked_goes s p s.asked

  -- one step of a taste
  pub taste_goes : (s : Taste) → GoesOn (taste_step granted q s)
  taste_goes s =
      either GoesOn (end_taste granted q s)
      (option_map_or (λ p. go_on granted q s p s.asked) (provider_at q.topology s.provider) (end_taste granted q s))
      (is_ended q.topology s) named (there_goes s (provider_at q.topology s.provider))

module _ (w : World) (keeps : KeepsNames w) where
  -- the mesh after what it came to
  judged_keeps : (x : Judging) → QueueNamed x.queued → (j : Judged) → KeepsNames (judged_world w x j).0
  judged_keeps x graph (Read sector) = record { graph = graph; disks = keeps.disks; left = keeps.left }
  judged_keeps x graph Next = record { graph = graph; disks = keeps.disks; left = keeps.left }
  judged_keeps x graph Made = record { graph = graph; disks = keeps.disks; left = keeps.left }
  judged_keeps x graph Ended = record { graph = keeps.graph; disks = keeps.disks; left = keeps.left }

  -- so after a step of a taste
  pub judge_keeps : (s : Taste) (x : Judging) (j : Judged) → taste_step (granted_in w) (queued_of w) s ≡ x
      → KeepsNames (judged_world w x j).0
  judge_keeps s x j step =
      judged_keeps x
      (subst (λ (y : Judging). QueueNamed y.queued) step (taste_goes (granted_in w) (queued_of w) keeps.graph s)) j
