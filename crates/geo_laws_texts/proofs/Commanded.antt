-- Each command of a plan keeps names.
use Rattle.std.specs.Prelude.{◌≡◌, ℕ, ◌+◌, ◌%◌, ◌==◌, nat_lt, Bool, true, false, not, ◌||◌, List, [], ◌∷◌, Some, None}
use Rattle.std.proofs.Common.{sym, subst}
use Rattle.std.proofs.lemmas.Bool.{not-false, or_parts}
use Rattle.geo_model.proofs.RefusalLemmas.{none_refused}
use Rattle.geo_base.specs.Name.{is_name}
use Rattle.geo_base.specs.declared.errno.Errno.TheVariants.{EEXIST, ENXIO, EINVAL, EDEEP}
use Rattle.geo_base.specs.declared.kind.Kind.TheVariants as kinds
use Rattle.geo_base.specs.declared.request.Counts.{Counts}
use Rattle.geo_base.specs.declared.limits.TheConstants.{MAX_RANK}
use Rattle.geo_model.specs.declared.command.Command.{Command}
use Rattle.geo_model.specs.declared.command.Command.TheVariants as commands
use Rattle.geo_model.specs.declared.step.Event.TheVariants as events
use Rattle.geo_model.specs.Words.{first_error, same_name}
use Rattle.geo_model.specs.Names.{nop_name}
use Rattle.geo_model.specs.Topology.{Topology, Provider, is_name_taken, add_geom, add_consumer, set_config}
use Rattle.geo_model.specs.World.{World, Config, Disk, Handle, HeaderDisk}
use Rattle.geo_model.specs.Events.{post, wither}
use Rattle.geo_model.specs.WorldEvents.{queued_of, with_queued, after_open, after_close}
use Rattle.geo_model.specs.Acceptance.{add_place}
use Rattle.geo_model.specs.HandleCommands.{with_handle, without_number, without_handle}
use Rattle.geo_model.specs.GeomCommands.{header_disk, stand, build, rank_over, with_geom_at, is_invalid_nop, nop_tests}
use Rattle.geo_model.specs.Append.{Growing, with_component, appended}
use Rattle.geo_model.specs.CommandEffects.{Making, with_making, IsMade}
use Rattle.geo_model.specs.Plans.{IsCommand}
use Rattle.geo_model.specs.Commands.{do_command}
use Rattle.geo_model.proofs.CommandWalk.{command_by}
use Rattle.geo_model.proofs.Options.{at-found}
use Rattle.geo_laws_texts.proofs.Lists.{fact_found}
use Rattle.geo_laws_texts.proofs.Words.{name_of_concat, name_of_stripe}
use Rattle.geo_laws_texts.proofs.Graphs.{size_named, wither_named, offer_named, consumers_named}
use Rattle.geo_laws_texts.proofs.Worlds.{IsNamedDisk, KeepsNames, with_queue, opened_keeps, closed_keeps, removed_named}

-- a disk stands whose name is one
pub stand_keeps : (w : World) (item : ℕ × HeaderDisk) → KeepsNames w → IsNamedDisk item.1 → KeepsNames (stand w item)
stand_keeps w item keeps is =
    with_queue w _ keeps
    (offer_named (record (queued_of w) { topology = add_geom w.topology kinds.Disk item.1.name (Disk item.0) false })
    w.topology.next_geom item.1.name item.1.size item.1.sector is keeps.graph)

-- a nop that nothing refuses has a name
nop_is_named : (t : Topology Config) (name : List ℕ) (offset size : ℕ) (p : Provider)
    → first_error (nop_tests t name offset size p) ≡ None → is_name name ≡ true
nop_is_named t name offset size p none =
    let deep : Bool = nat_lt MAX_RANK (rank_over t (p ∷ [])) in
    let a = none_refused p.errored ENXIO ((is_name_taken t name, EEXIST)
    ∷ (is_invalid_nop p name offset size, EINVAL) ∷ (deep, EDEEP) ∷ []) none in
    let b = none_refused (is_name_taken t name) EEXIST
    ((is_invalid_nop p name offset size, EINVAL) ∷ (deep, EDEEP) ∷ []) a.1 in
    let c = none_refused (is_invalid_nop p name offset size) EINVAL ((deep, EDEEP) ∷ []) b.1 in
    let d = or_parts (size == 0) (not (offset % p.sector == 0) || (not (size % p.sector == 0)
    || (nat_lt p.size (offset + size) || not (is_name name)))) c.0 in
    let e = or_parts (not (offset % p.sector == 0)) (not (size % p.sector == 0)
    || (nat_lt p.size (offset + size) || not (is_name name))) d.1 in
    let f = or_parts (not (size % p.sector == 0)) (nat_lt p.size (offset + size) || not (is_name name)) e.1 in
    let g = or_parts (nat_lt p.size (offset + size)) (not (is_name name)) f.1 in
    not-false (is_name name) g.1

-- so has each geom that is made
made_is_named : (w : World) (c : Command) (m : Making) → IsMade w c m → IsCommand c → is_name m.name ≡ true
made_is_named w (commands.Nop prov offset size fail) m made is =
    subst (λ (x : Making). is_name x.name ≡ true) (sym made.3)
    (nop_is_named w.topology (nop_name prov) offset size made.0 made.2)
made_is_named w (commands.Concat name provs) m made is =
    subst (λ (x : Making). is_name x.name ≡ true) (sym made.1) (name_of_concat name is.0)
made_is_named w (commands.Stripe name stripe provs) m made is =
    subst (λ (x : Making). is_name x.name ≡ true) (sym made.1) (name_of_stripe name is.0)
made_is_named w _ m made is = absurd made

module _ (w : World) (keeps : KeepsNames w) (line : ℕ) where
  -- a consumer's number is used up
  number_named : KeepsNames (without_number w)
  number_named = record { graph = keeps.graph; disks = keeps.disks; left = keeps.left }

  -- a handle is opened
  opened_named : (actor : ℕ) (name : List ℕ) (p : ℕ) (grant : Counts)
      → KeepsNames (after_open w (with_handle w actor name p grant))
  opened_named actor name p grant =
      opened_keeps w (with_handle w actor name p grant)
      (record { graph = keeps.graph; disks = keeps.disks; left = keeps.left })

  -- and closed
  closed_named : (h : Handle) → KeepsNames (after_close w (without_handle w h))
  closed_named h =
      closed_keeps w (without_handle w h) (record {
        graph = removed_named w.topology h.consumer keeps.graph;
        disks = keeps.disks;
        left = keeps.left;
      })

  -- the disk that is found stands
  inserted_named : (disk : List ℕ) (item : ℕ × HeaderDisk) → header_disk w disk ≡ Some item → KeepsNames (stand w item)
  inserted_named disk item found =
      stand_keeps w item keeps
      (at-found (header_disk w disk) (λ (x : ℕ × HeaderDisk). IsNamedDisk x.1) item found
      (fact_found IsNamedDisk (λ (x : ℕ × HeaderDisk). same_name x.1.name disk) 0 w.disks keeps.disks))

  -- a geom over providers
  made_named : (m : Making) → is_name m.name ≡ true → KeepsNames (with_making w m)
  made_named m is =
      with_queue w (build (queued_of w) m.kind m.geom_name m.config m.providers m.name m.size m.sector) keeps
      (offer_named
      (record (queued_of w) { topology = with_geom_at w.topology m.kind m.geom_name m.config m.providers })
      w.topology.next_geom m.name m.size m.sector is
      (consumers_named w.topology.next_geom m.providers (add_geom w.topology m.kind m.geom_name m.config false)
      keeps.graph))

  -- a geom withers
  withered_named : (g : ℕ) → KeepsNames (with_queued w (wither (queued_of w) g))
  withered_named g = with_queue w _ keeps (wither_named (queued_of w) g keeps.graph)

  -- a concat grows
  grown_named : (x : Growing) (q : Provider) → KeepsNames (appended w x q)
  grown_named x q =
      let v : World = with_component w x q in
      let grown : KeepsNames v = record {
        graph = size_named
            (set_config (add_consumer w.topology x.geom.number (Some q.number)) x.geom.number
            (add_place x.geom.config w.topology.next_consumer q.size))
            x.provider.number (x.provider.size + q.size) keeps.graph;
        disks = keeps.disks;
        left = keeps.left;
      } in
      let opened : KeepsNames (after_open w v) = opened_keeps w v grown in
      with_queue (after_open w v) (post (queued_of (after_open w v)) (events.Resize x.provider.number)) opened
      opened.graph

  -- each command
  pub command_keeps : (actor : ℕ) (c : Command) → IsCommand c → KeepsNames (do_command w line actor c).0
  command_keeps actor =
      command_by w line actor (λ c made. IsCommand c → KeepsNames made.0)
      (record { refuses = λ c e is. keeps; numbers = λ c e is. number_named })
      (record {
        waits = λ c waits is. keeps;
        lists = λ is. keeps;
        opens = λ name prov grant p opens is. opened_named actor name p grant;
        closes = λ name h closes is. closed_named h;
        accepts = λ c h a asks is. record { graph = keeps.graph; disks = keeps.disks; left = keeps.left };
      })
      (record {
        inserts = λ disk item inserts is. inserted_named disk item inserts.found;
        makes = λ c m makes is. made_named m (made_is_named w c m makes is);
        withers = λ c g ends is. withered_named g.number;
        grows = λ name prov x q grows is. grown_named x q;
      })
