-- A new root of a line that is Down: a firm mesh stays firm.
use Rattle.std.specs.Prelude.{◌≡◌, ◌↔◌, ℕ, ◌+◌, ◌≤◌, ◌==◌, Bool, false, ◌||◌, List, [], ◌∷◌, ◌++◌, length, map, count_by, Option, Some, None, IsSome, IsSomeAnd, IsTrue}
use Rattle.std.specs.List.{enumerate_from, list_all, list_any}
use Rattle.std.specs.Option.{option_map_or}
use Rattle.std.proofs.Common.{refl, sym, ◌∙◌, ap, subst}
use Rattle.std.proofs.Math.Bool.{or-false}
use Rattle.std.proofs.lemmas.List.Elements.{All-weaker, All-push}
use Rattle.std.proofs.lemmas.List.Quantifiers.{all_pairs_push}
use Rattle.std.proofs.lemmas.List.Sums.{length-filter}
use Rattle.geo_model.specs.declared.step.Owner.{Owner}
use Rattle.geo_model.specs.declared.step.Owner.TheVariants as owners
use Rattle.geo_model.specs.declared.step.Phase.{Phase}
use Rattle.geo_model.specs.declared.step.Phase.TheVariants as phases
use Rattle.geo_model.specs.Topology.{geom_at, provider_at}
use Rattle.geo_model.specs.World.{World, Bio, bio_at, children_of, is_waiting, is_done, is_busy, is_sent, is_up, is_child_of, is_taste_root, is_read_out, granted_in}
use Rattle.geo_model.specs.Bios.{piece_targets, disk_of_bio}
use Rattle.geo_model.specs.SoundBios.{IsBioInOrder, IsFamilyInOrder, HasItsParent, shape_of_child, shape_of_piece, NotBothBusy}
use Rattle.geo_model.specs.Steady.{ComesFromItsOwner, HasItsResult}
use Rattle.geo_model.specs.Fitting.{Firm, BiosOf}
use Rattle.geo_laws_graph.proofs.Lists.{numbers-push}
use Rattle.geo_laws_graph.proofs.Living.{found-before}
use Rattle.geo_laws_graph.proofs.Numbered.{filter-pushed, any-pushed}
use Rattle.geo_laws_bios.specs.BioFrames.{with_bios}
use Rattle.geo_laws_bios.proofs.Apart.{bios_are_apart}

module _ (w : World) (x : Bio) (handle line : ℕ) (firm : Firm w) (number : x.number ≡ w.next_bio)
    (down : x.phase ≡ phases.Down) (owner : x.owner ≡ owners.Line handle line)
    (in_order : IsBioInOrder (granted_in w) w.topology x)
    (of_handle : ComesFromItsOwner w.handles w.taste x (owners.Line handle line)) where
  -- the world with it
  abbrev v : World
  v = with_bios w (w.bios ++ x ∷ []) (w.next_bio + 1)

  -- the bios before
  hold : BiosOf w
  hold = firm.bios

  -- it is in no other phase
  not_in : (test : Phase → Bool) → test phases.Down ≡ false → test x.phase ≡ false
  not_in test out = ap test down ∙ out

  -- it is nobody's child
  no_child : (n : ℕ) → is_child_of x.owner n ≡ false
  no_child n = ap (λ (o : Owner). is_child_of o n) owner

  -- and it doesn't read for a taste
  no_read : is_taste_root x.owner ≡ false
  no_read = ap is_taste_root owner

  -- so each bio has the children that it had
  same_children : (n : ℕ) → children_of v n ≡ children_of w n
  same_children n = filter-pushed (λ (z : Bio). is_child_of z.owner n) w.bios x (no_child n)

  -- a parent stays
  parent_kept : (o : Owner) → HasItsParent w.bios o → HasItsParent v.bios o
  parent_kept (owners.Line h l) has = tt
  parent_kept owners.Taste has = tt
  parent_kept (owners.Child parent index) has = by (bio_at w parent) refl has where
    -- it is found as before
    by : (o : Option Bio) → bio_at w parent ≡ o → IsSomeAnd o (λ y. IsTrue (is_waiting y.phase))
        → IsSomeAnd (bio_at v parent) (λ y. IsTrue (is_waiting y.phase))
    by None e waits = absurd waits
    by (Some y) e waits =
        subst (λ o. IsSomeAnd o (λ (y : Bio). IsTrue (is_waiting y.phase)))
        (sym (found-before (λ (z : Bio). z.number == parent) w.bios (x ∷ []) y e)) waits

  -- and so does a family
  family_kept : (z : Bio) → IsFamilyInOrder w.topology w.bios z → IsFamilyInOrder w.topology v.bios z
  family_kept z is = record {
    parent = parent_kept z.owner is.parent;
    pieces = λ waits. subst (λ cs. IsSomeAnd (provider_at w.topology z.target) (λ p.
        IsSomeAnd (geom_at w.topology p.geom) (λ g.
        map shape_of_child cs
        ≡ map (λ item. shape_of_piece z item.0 item.1) (enumerate_from 0 (piece_targets g.config p z)))))
        (sym (same_children z.number)) (is.pieces waits);
    not_complete = λ waits. subst (λ (cs : List Bio). list_all (λ c. is_done c.phase) cs ≡ false)
        (sym (same_children z.number)) (is.not_complete waits);
    root = is.root;
  }

  -- its own family
  own_family : IsFamilyInOrder w.topology v.bios x
  own_family =
      let still : is_waiting x.phase ≡ false = not_in is_waiting refl in
      record {
        parent = subst (HasItsParent v.bios) (sym owner) tt;
        pieces = λ waits. absurd (let bad : ⊥ = cc in bad);
        not_complete = λ waits. absurd (let bad : ⊥ = cc in bad);
        root = λ root. not_in is_done refl;
      }

  -- the bios then
  submitted_hold : BiosOf v
  submitted_hold = record {
    numbers = numbers-push (λ (z : Bio). z.number) w.next_bio w.bios x number hold.numbers;
    order = All-push (IsBioInOrder (granted_in w) w.topology) w.bios x hold.order in_order;
    families = All-push (IsFamilyInOrder w.topology v.bios) w.bios x
        (All-weaker (IsFamilyInOrder w.topology w.bios) (IsFamilyInOrder w.topology v.bios) family_kept w.bios
        hold.families)
        own_family;
    disks = record {
      at_disk = All-push (λ (z : Bio). IsTrue (is_sent z.phase || is_busy z.phase) → IsSome (disk_of_bio w z))
          w.bios x
          hold.disks.at_disk
          (λ out. let none : (is_sent x.phase || is_busy x.phase) ≡ false =
          not_in (λ p. is_sent p || is_busy p) refl in absurd (let bad : ⊥ = cc in bad));
      one_busy = all_pairs_push (NotBothBusy w.topology) w.bios x hold.disks.one_busy
          (λ k d short first second. let none : is_busy x.phase ≡ false = not_in is_busy refl in
          absurd (let bad : ⊥ = cc in bad));
    };
    read_out = subst (λ (b : Bool). IsTrue b ↔ IsTrue (option_map_or (λ s. is_read_out s.asked) w.taste false))
        (sym (any-pushed (λ (z : Bio). is_taste_root z.owner) w.bios x
        ∙ ap (λ b. list_any (λ (z : Bio). is_taste_root z.owner) w.bios || b) no_read
        ∙ or-false (list_any (λ (z : Bio). is_taste_root z.owner) w.bios)))
        hold.read_out;
    owners = All-push (λ (z : Bio). ComesFromItsOwner w.handles w.taste z z.owner) w.bios x hold.owners
        (subst (ComesFromItsOwner w.handles w.taste x) (sym owner) of_handle);
    results = All-push HasItsResult w.bios x hold.results
        (λ over. let none : (is_up x.phase || is_done x.phase) ≡ false =
        not_in (λ p. is_up p || is_done p) refl in absurd (let bad : ⊥ = cc in bad));
    read = record {
      one = subst (λ (n : ℕ). n ≤ 1) (sym same_reads) hold.read.one;
      sector = All-push (λ (z : Bio). IsTrue (is_taste_root z.owner)
          → IsSomeAnd (provider_at w.topology z.target) (λ p. z.len ≡ p.sector)) w.bios x hold.read.sector
          (λ reads. let none : is_taste_root x.owner ≡ false = no_read in absurd (let bad : ⊥ = cc in bad));
    };
  }
    where
      -- as many read for a taste
      same_reads : count_by (λ (z : Bio). is_taste_root z.owner) v.bios
          ≡ count_by (λ (z : Bio). is_taste_root z.owner) w.bios
      same_reads =
          sym (length-filter (λ (z : Bio). is_taste_root z.owner) v.bios)
          ∙ ap (λ (zs : List Bio). length zs) (filter-pushed (λ (z : Bio). is_taste_root z.owner) w.bios x no_read)
          ∙ length-filter (λ (z : Bio). is_taste_root z.owner) w.bios

  -- so the mesh is firm
  pub submitted-firm : Firm v
  submitted-firm = bios_are_apart w (w.bios ++ x ∷ []) (w.next_bio + 1) firm submitted_hold
