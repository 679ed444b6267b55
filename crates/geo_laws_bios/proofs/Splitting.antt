-- A bio is split: the bios stay in order where its pieces go down, and in a firm mesh they do.
use Rattle.std.specs.Prelude.{◌≡◌, ◌≢◌, ◌↔◌, ℕ, ◌+◌, ◌%◌, ◌<◌, ◌≤◌, ◌==◌, Bool, true, false, List, [], ◌∷◌, ◌++◌, length, map, filter, find, Option, Some, None, All, AllPairs, Contains, IsSome, IsSomeAnd, IsTrue, unwrap_or, ◌-◌, min, not, take, drop, sum, option_and_then, option_map, slice_get}
use Rattle.std.specs.List.{AllByRecursion, list_any, list_all, enumerate_from}
use Rattle.std.specs.Option.{option_map_or, option_flatten}
use Rattle.std.proofs.Common.{refl, sym, ◌∙◌, ap, subst, arith, append_assoc, get_or, inl, inr, length-take, length-drop}
use Rattle.std.proofs.lemmas.Bool.{eqb-true, eqb-false, eq-eqb, ne_eqb, not_from_false, cases_Bool}
use Rattle.std.proofs.lemmas.List.{append-nil, map-append}
use Rattle.std.proofs.lemmas.List.Elements.{All-append, All-from_recursion, All-contains, filter-append, recursion_from_All}
use Rattle.geo_model.proofs.FindLists.{any-kept_some}
use Rattle.std.proofs.lemmas.List.Quantifiers.{all_pairs_push}
use Rattle.std.proofs.lemmas.List.Sums.{length-filter}
use Rattle.std.proofs.lemmas.Simd.{map-map}
use Rattle.std.proofs.lemmas.Nat.Gcd.{dvd_of_mod-eq-zero, mod-eq-zero_of_dvd}
use Rattle.geo_model.specs.TheConstants.{MAX_REQUEST_BYTES}
use Rattle.geo_model.specs.declared.step.Owner.{Owner}
use Rattle.geo_model.specs.declared.step.Owner.TheVariants as owners
use Rattle.geo_model.specs.declared.step.Phase.TheVariants as phases
use Rattle.geo_model.specs.Words.{change_where, is_flush, is_write}
use Rattle.geo_model.specs.Topology.{Geom, Provider, Consumer, geom_at, provider_at, consumer_at, provider_of_consumer, Topology, providers_of}
use Rattle.geo_model.specs.Graph.{AreNumbers}
use Rattle.geo_model.specs.World.{World, Bio, Config, bio_at, children_of, is_done, is_busy, is_down, is_waiting, is_child_of, is_taste_root, is_read_out, granted_in, Concat}
use Rattle.geo_model.specs.Bios.{PieceTarget, piece_targets, piece_child, bytes_of_piece, split_bio, empty_piece}
use Rattle.geo_model.specs.SoundBios.{IsRangeInside, IsBioInOrder, IsFamilyInOrder, HasItsParent, HasItsPieces, HasCountFor, shape_of_child, shape_of_piece, NotBothBusy}
use Rattle.geo_model.specs.Steady.{HasItsResult, HasItsComponents}
use Rattle.geo_model.specs.Fitting.{BiosOf, Firm, FitsPlaces, HasItsSum, IsWholeIn}
use Rattle.geo_model.proofs.FilterLists.{keeps_all}
use Rattle.geo_model.proofs.BioLemmas.{write_moves}
use Rattle.geo_model.specs.declared.span.Piece.{Piece}
use Rattle.geo_model.specs.Demand.{have, is_zero}
use Rattle.geo_model.specs.Place.{Spot, place, pieces, component, components, disk_of, Follow}
use Rattle.geo_model.specs.Acceptance.{joined_size}
use Rattle.geo_model.specs.Sound.{IsOfItsClass, IsMediaSize, IsPlaceInside}
use Rattle.geo_model.proofs.RankLemmas.{mapped_by}
use Rattle.geo_laws_graph.proofs.Lists.{Rise, rise-from, rise-wider, numbers-from, filter-changed, map-changed, length-changed, numbers-changed}
use Rattle.geo_laws_graph.proofs.Living.{found-before}
use Rattle.geo_laws_graph.proofs.Members.{find-Contains, filter-Contains, Contains-here, Contains-map, has, Contains-filter}
use Rattle.geo_laws_graph.proofs.Numbered.{at-here, at-unchanged, number_found, any-contained}
use Rattle.geo_laws_bios.specs.BioSteps.{turned}
use Rattle.geo_laws_bios.proofs.Items.{none_kept, all_changed, all-fewer, both_by_recursion}
use Rattle.geo_laws_bios.proofs.Turned.{not_waiting, AreItsPieces, HasItsDisk, HasItsOwner, ReadsSector, order_turned, pairs_turned, parent_stays, owner_stays, bios_are_apart}
use Rattle.geo_laws_bios.proofs.Pieces.{some_components, Below, IsBetween, LiesBelow, is_open, is_placed, range_of, whole_below, follow, pieces_below, no_piece_lost, counted, first_below, IsWholePiece, AreWholeSizes, pieces_whole, sizes_whole, concat_kind}

-- Lists

-- numbers that rise, and more that rise from where they end
rise_append : (low mid high : ℕ) (ns ms : List ℕ) → low ≤ mid → mid ≤ high → Rise low ns mid → Rise mid ms high
    → Rise low (ns ++ ms) high
rise_append low mid high [] ms up more rise rest = rise-wider mid low high high ms up (omega arith) rest
rise_append low mid high (n ∷ ns) ms up more rise rest =
    (rise.0, omega (arith, rise.1), rise_append (n + 1) mid high ns ms (omega (arith, rise.1)) more rise.2 rest)

-- pairs of a list, and of items that are quiet behind it
pairs_quiet : {X : Type 0} (R : X → X → Type 0) (Quiet : X → Type 0) → ((a y : X) → Quiet y → R a y)
    → (ys xs : List X) → AllPairs R xs
    → AllByRecursion Quiet ys → AllPairs R (xs ++ ys)
pairs_quiet R Quiet so [] xs pairs quiet = rw append-nil pairs
pairs_quiet R Quiet so (y ∷ ys) xs pairs quiet =
    subst (AllPairs R) (append_assoc xs (y ∷ []) ys)
    (pairs_quiet R Quiet so ys (xs ++ y ∷ [])
    (all_pairs_push R xs y pairs (λ k d short. so (get_or xs k d) y quiet.0)) quiet.1)

-- a list that contains nothing is empty
nothing_kept : {X : Type 0} (xs : List X) → ((x : X) → Contains xs x → ⊥) → xs ≡ []
nothing_kept [] none = refl
nothing_kept (x ∷ xs) none = absurd (none x (Contains-here x xs))

-- A piece that goes down

-- a range of whole sectors of a provider
pub record IsSpanInside (offset len : ℕ) (p : Provider) : Type 0 where
  pub some_byte : 1 ≤ len
  pub not_long : len ≤ MAX_REQUEST_BYTES
  pub offset_whole : offset % p.sector ≡ 0
  pub len_whole : len % p.sector ≡ 0
  pub inside : offset + len ≤ p.size

-- a piece of a bio goes down through an attached consumer with the count, as whole sectors of the provider below
pub record GoesDown (w : World) (x : Bio) (z : PieceTarget) : Type 0 where
  pub consumer : Consumer
  pub found : consumer_at w.topology z.consumer ≡ Some consumer
  pub under : ℕ
  pub to_it : consumer.provider ≡ Some under
  pub provider : Provider
  pub stands : provider_at w.topology under ≡ Some provider
  pub of_geom : (p : Provider) → provider_at w.topology x.target ≡ Some p → consumer.geom ≡ p.geom
  pub count : HasCountFor (granted_in w) w.topology x consumer
  pub range : is_flush x.cmd ≡ false → IsSpanInside z.piece.span.offset z.piece.span.len provider
  pub bytes : IsTrue (is_write x.cmd) → length (bytes_of_piece x.bytes z.piece) ≡ z.piece.span.len

module _ (w : World) (x : Bio) (targets : List PieceTarget) where
  -- the children from a number on
  abbrev pub kids : ℕ → List PieceTarget → List Bio
  kids k zs = map (λ item. piece_child w.topology w.next_bio x item.0 item.1) (enumerate_from k zs)

  -- whether a bio is the one
  abbrev is_it : Bio → Bool
  is_it z = z.number == x.number

  -- how it is changed
  abbrev wait : Bio → Bio
  wait = turned phases.Waiting (λ r. r)

  -- the bios that stood
  abbrev old : List Bio
  old = change_where is_it wait w.bios

  -- the world in which the bio waits for its children
  abbrev pub parted : World
  parted = record w { bios = old ++ kids 0 targets; next_bio = w.next_bio + length (kids 0 targets) }

  -- a fact of each child
  kids_all : (P : Bio → Type 0) (F : PieceTarget → Type 0)
      → ((k : ℕ) (z : PieceTarget) → F z → P (piece_child w.topology w.next_bio x k z))
      → (k : ℕ) (zs : List PieceTarget) → AllByRecursion F zs → AllByRecursion P (kids k zs)
  kids_all P F so k [] facts = tt
  kids_all P F so k (z ∷ zs) facts = (so k z facts.0, kids_all P F so (k + 1) zs facts.1)

  -- a fact of any child
  kids_any : (P : Bio → Type 0) → ((k : ℕ) (z : PieceTarget) → P (piece_child w.topology w.next_bio x k z))
      → (k : ℕ) (zs : List PieceTarget)
      → AllByRecursion P (kids k zs)
  kids_any P so k [] = tt
  kids_any P so k (z ∷ zs) = (so k z, kids_any P so (k + 1) zs)

  -- their numbers rise
  kids_rise : (k : ℕ) (zs : List PieceTarget)
      → Rise (w.next_bio + k) (map (λ (c : Bio). c.number) (kids k zs)) (w.next_bio + k + length (kids k zs))
  kids_rise k [] = tt
  kids_rise k (z ∷ zs) = (
    omega arith,
    omega arith,
    rise-wider (w.next_bio + (k + 1)) (w.next_bio + k + 1) (w.next_bio + (k + 1) + length (kids (k + 1) zs))
        (w.next_bio + k + length (kids k (z ∷ zs)))
        (map (λ (c : Bio). c.number) (kids (k + 1) zs)) (omega arith) (omega arith) (kids_rise (k + 1) zs),
  )

  -- those that pass a test which no child passes are those that did, but for the one
  kept_there : (test : Bio → Bool) → ((c : Bio) → is_it c ≡ true → test (wait c) ≡ test c)
      → AllByRecursion (λ c. test c ≡ false) (kids 0 targets)
      → filter test parted.bios ≡ change_where is_it wait (filter test w.bios)
  kept_there test same none =
      filter-append test old (kids 0 targets) ∙ ap (λ cs. filter test old ++ cs) (none_kept test (kids 0 targets) none)
      ∙ append-nil (filter test old) ∙ filter-changed is_it wait test same w.bios

  -- so the children of another bio
  children_there : (n : ℕ) → x.number ≢ n → children_of parted n ≡ change_where is_it wait (children_of w n)
  children_there n other = kept_there (λ c. is_child_of c.owner n) (λ c e. refl)
      (kids_any (λ (c : Bio). is_child_of c.owner n ≡ false) (λ k z. ne_eqb x.number n other) 0 targets)

  module _ (hold : BiosOf w) (found : bio_at w x.number ≡ Some x) (down : is_down x.phase ≡ true) where
    -- the bio isn't Waiting before
    waited : is_waiting x.phase ≡ false
    waited = not_waiting is_down refl x.phase down

    -- a fact of each bio afterwards
    each_after : (P Q : Bio → Type 0) → (Q x → P (wait x)) → ((z : Bio) → is_it z ≡ false → Q z → P z)
        → AllByRecursion P (kids 0 targets) → All Q w.bios → All P parted.bios
    each_after P Q here there new facts =
        All-append P old (kids 0 targets)
        (all_changed (λ (z : Bio). z.number) wait w.next_bio w.bios x hold.numbers found P Q here there facts)
        (All-from_recursion P (kids 0 targets) new)

    -- numbers
    numbers : AreNumbers (map (λ z. z.number) parted.bios) parted.next_bio
    numbers =
        let olds : AreNumbers (map (λ (z : Bio). z.number) old) w.next_bio =
        numbers-changed (λ (z : Bio). z.number) is_it wait (λ z e. refl) w.next_bio w.bios hold.numbers in
        let news = kids_rise 0 targets in
        subst (λ (ns : List ℕ). AreNumbers ns parted.next_bio)
        (sym (map-append (λ (z : Bio). z.number) old (kids 0 targets)))
        (numbers-from 0 parted.next_bio
        (map (λ (z : Bio). z.number) old ++ map (λ (z : Bio). z.number) (kids 0 targets))
        (rise_append 0 w.next_bio parted.next_bio (map (λ (z : Bio). z.number) old)
        (map (λ (z : Bio). z.number) (kids 0 targets))
        (omega arith) (omega arith) (rise-from w.next_bio (map (λ (z : Bio). z.number) old) olds)
        (rise-wider (w.next_bio + 0) w.next_bio (w.next_bio + 0 + length (kids 0 targets)) parted.next_bio
        (map (λ (z : Bio). z.number) (kids 0 targets))
        (omega arith) (omega arith) news)))

    -- the bio is found Waiting
    found_waiting : bio_at parted x.number ≡ Some (wait x)
    found_waiting =
        found-before (λ (z : Bio). z.number == x.number) old (kids 0 targets) (wait x)
        (at-here (λ (z : Bio). z.number) wait (λ z. refl) x.number w.bios x found)

    -- what is Waiting stays so
    waiting_at : (n : ℕ) (o : Option Bio) → bio_at w n ≡ o → IsSomeAnd o (λ q. IsTrue (is_waiting q.phase))
        → (b : Bool) → (n == x.number) ≡ b
        → IsSomeAnd (bio_at parted n) (λ q. IsTrue (is_waiting q.phase))
    waiting_at n None at has b e = absurd has
    waiting_at n (Some q) at has true e =
        subst (λ (m : ℕ). IsSomeAnd (bio_at parted m) (λ q. IsTrue (is_waiting q.phase)))
        (sym (eqb-true n x.number e)) (rw found_waiting refl)
    waiting_at n (Some q) at has false e =
        let same : find (λ (z : Bio). z.number == n) old ≡ bio_at w n =
        at-unchanged (λ (z : Bio). z.number) wait (λ z. refl) x.number n (eqb-false n x.number e) w.bios in
        let there : bio_at parted n ≡ Some q =
        found-before (λ (z : Bio). z.number == n) old (kids 0 targets) q (same ∙ at) in
        rw there has

    -- a parent stays
    parent_kept : (o : Owner) → HasItsParent w.bios o → HasItsParent parted.bios o
    parent_kept = parent_stays w.bios parted.bios (λ n has. waiting_at n (bio_at w n) refl has (n == x.number) refl)

    -- a bio that names a parent, names one that is Waiting
    names_waiting : (o : Owner) → is_child_of o x.number ≡ true → HasItsParent w.bios o → ⊥
    names_waiting (owners.Child parent index) child has =
        let same : parent ≡ x.number = eqb-true parent x.number child in
        let here : bio_at w parent ≡ Some x = subst (λ (n : ℕ). bio_at w n ≡ Some x) (sym same) found in
        let waiting : is_waiting x.phase ≡ true = rw here at has in
        let waits_not : is_waiting x.phase ≡ false = waited in
        cc
    names_waiting _ child has = cc

    -- so the bio had no children
    no_children : children_of w x.number ≡ []
    no_children = nothing_kept (children_of w x.number) (λ c here.
        let stands = filter-Contains (λ (v : Bio). is_child_of v.owner x.number) w.bios c here in
        let family : IsFamilyInOrder w.topology w.bios c =
        All-contains (IsFamilyInOrder w.topology w.bios) w.bios c hold.families stands.0 in
        names_waiting c.owner stands.1 family.parent)

    -- now it has these
    children_here : children_of parted x.number ≡ kids 0 targets
    children_here =
        filter-append (λ (c : Bio). is_child_of c.owner x.number) old (kids 0 targets)
        ∙ ap (λ cs. cs ++ filter (λ (c : Bio). is_child_of c.owner x.number) (kids 0 targets))
        (filter-changed is_it wait (λ (c : Bio). is_child_of c.owner x.number) (λ c e. refl) w.bios
        ∙ ap (λ cs. change_where is_it wait cs) no_children)
        ∙ keeps_all (λ (c : Bio). is_child_of c.owner x.number) (kids 0 targets)
        (kids_any (λ (c : Bio). is_child_of c.owner x.number ≡ true) (λ k z. eq-eqb x.number x.number refl) 0 targets)

    module _ (p : Provider) (g : Geom Config) (to_it : provider_at w.topology x.target ≡ Some p)
        (of_it : geom_at w.topology p.geom ≡ Some g)
        (are : targets ≡ piece_targets g.config p x) (some : targets ≢ [])
        (lead : AllByRecursion (GoesDown w x) targets) where
      -- its pieces are these
      pieces_here : HasItsPieces w.topology parted.bios (wait x)
      pieces_here =
          let shapes : map shape_of_child (children_of parted x.number) ≡ map
          (λ item. shape_of_piece (wait x) item.0 item.1) (enumerate_from 0 (piece_targets g.config p (wait x))) =
          ap (λ (cs : List Bio). map shape_of_child cs) children_here
          ∙ map-map shape_of_child (λ (item : ℕ × PieceTarget). piece_child w.topology w.next_bio x item.0 item.1)
          (enumerate_from 0 targets)
          ∙ ap (λ (zs : List PieceTarget). map (λ (item : ℕ × PieceTarget). shape_of_piece (wait x) item.0 item.1)
          (enumerate_from 0 zs)) are in
          rw (to_it, of_it) shapes

      -- not all of them are Done
      not_done : (zs : List PieceTarget) → zs ≢ [] → list_all (λ (c : Bio). is_done c.phase) (kids 0 zs) ≡ false
      not_done [] no_way = absurd (no_way refl)
      not_done (z ∷ zs) there = refl

      -- the family of the bio
      family_here : IsFamilyInOrder w.topology w.bios x → IsFamilyInOrder w.topology parted.bios (wait x)
      family_here is = record {
        parent = parent_kept x.owner is.parent;
        pieces = λ waiting. pieces_here;
        not_complete = λ waiting. subst (λ (cs : List Bio). list_all (λ (c : Bio). is_done c.phase) cs ≡ false)
            (sym children_here) (not_done targets some);
        root = λ root. refl;
      }

      -- the family of another one
      family_there : (z : Bio) → is_it z ≡ false → IsFamilyInOrder w.topology w.bios z
          → IsFamilyInOrder w.topology parted.bios z
      family_there z e is =
          let other : x.number ≢ z.number = λ same. eqb-false z.number x.number e (sym same) in
          let same = children_there z.number other in
          record {
            parent = parent_kept z.owner is.parent;
            pieces = λ waiting. subst (AreItsPieces w z)
                (sym (ap (λ (cs : List Bio). map shape_of_child cs) same
                ∙ map-changed is_it wait shape_of_child (λ c d. refl) (children_of w z.number)))
                (is.pieces waiting);
            not_complete = λ waiting. subst (λ (cs : List Bio). list_all (λ (c : Bio). is_done c.phase) cs ≡ false)
                (sym same)
                (all-fewer is_it (λ (c : Bio). is_done c.phase) wait (λ c d. refl) (children_of w z.number)
                (is.not_complete waiting));
            root = is.root;
          }

      -- the family of a child
      family_new : (k : ℕ) (z : PieceTarget)
          → IsFamilyInOrder w.topology parted.bios (piece_child w.topology w.next_bio x k z)
      family_new k z = record {
        parent = rw found_waiting refl;
        pieces = λ waiting. absurd cc;
        not_complete = λ waiting. absurd cc;
        root = λ root. refl;
      }

      -- the range of a child
      range_new : (k : ℕ) (z : PieceTarget) (q : Provider) → IsSpanInside z.piece.span.offset z.piece.span.len q
          → IsRangeInside (piece_child w.topology w.next_bio x k z) q
      range_new k z q span = record {
        some_byte = span.some_byte;
        not_long = span.not_long;
        offset_whole = span.offset_whole;
        len_whole = span.len_whole;
        inside = span.inside;
      }

      -- a child is in order
      order_new : (k : ℕ) (z : PieceTarget) → GoesDown w x z
          → IsBioInOrder (granted_in w) w.topology (piece_child w.topology w.next_bio x k z)
      order_new k z goes =
          let found_it : consumer_at w.topology z.consumer ≡ Some goes.consumer = goes.found in
          let attached : goes.consumer.provider ≡ Some goes.under = goes.to_it in
          let stands : provider_at w.topology goes.under ≡ Some goes.provider = goes.stands in
          let to_there : unwrap_or (provider_of_consumer w.topology z.consumer) 0 ≡ goes.under =
          rw (found_it, attached) refl in
          record {
            source = subst
                (λ (o : Option Consumer). IsSomeAnd o
                (λ c. (c.provider ≡ Some (unwrap_or (provider_of_consumer w.topology z.consumer) 0))
                × HasCountFor (granted_in w) w.topology x c))
                (sym found_it) (attached ∙ ap (λ (n : ℕ). Some n) (sym to_there), goes.count);
            target = subst (λ (n : ℕ). IsSomeAnd (provider_at w.topology n)
                (λ q. is_flush x.cmd ≡ false → IsRangeInside (piece_child w.topology w.next_bio x k z) q))
                (sym to_there)
                (rw stands (λ moves. range_new k z goes.provider (goes.range moves)));
            bytes = goes.bytes;
          }

      -- so for all pairs
      one_busy : AllPairs (NotBothBusy w.topology) parted.bios
      one_busy =
          pairs_quiet (NotBothBusy w.topology) (λ (c : Bio). is_busy c.phase ≡ false)
          (λ a c quiet first second. absurd cc) (kids 0 targets) old
          (pairs_turned w is_it wait (λ z. refl) w.bios hold.disks.one_busy)
          (kids_any (λ (c : Bio). is_busy c.phase ≡ false) (λ k z. refl) 0 targets)

      -- there are as many reads for a taste as before
      as_many : length (filter (λ (z : Bio). is_taste_root z.owner) parted.bios) ≡ length
          (filter (λ (z : Bio). is_taste_root z.owner) w.bios)
      as_many =
          ap (λ (zs : List Bio). length zs)
          (kept_there (λ z. is_taste_root z.owner) (λ z e. refl)
          (kids_any (λ (c : Bio). is_taste_root c.owner ≡ false) (λ k z. refl) 0 targets))
          ∙ length-changed is_it wait (filter (λ (z : Bio). is_taste_root z.owner) w.bios)

      -- the number of the bio is given out
      below_next : x.number < w.next_bio
      below_next =
          All-contains (λ (n : ℕ). n < w.next_bio) (map (λ (z : Bio). z.number) w.bios) x.number hold.numbers.1
          (Contains-map (λ (z : Bio). z.number) w.bios x (find-Contains is_it w.bios x found))

      -- the bios are in order afterwards
      parted_hold : BiosOf parted
      parted_hold = record {
        numbers = numbers;
        order = each_after (IsBioInOrder (granted_in w) w.topology) (IsBioInOrder (granted_in w) w.topology)
            (order_turned w x phases.Waiting (λ r. r)) (λ z e is. is)
            (kids_all (IsBioInOrder (granted_in w) w.topology) (GoesDown w x) order_new 0 targets lead) hold.order;
        families = each_after (IsFamilyInOrder w.topology parted.bios) (IsFamilyInOrder w.topology w.bios)
            family_here family_there
            (kids_any (IsFamilyInOrder w.topology parted.bios) family_new 0 targets) hold.families;
        disks = record {
          at_disk = each_after (HasItsDisk w) (HasItsDisk w) (λ at sent. absurd cc) (λ z e at. at)
              (kids_any (HasItsDisk w) (λ k z sent. absurd cc) 0 targets) hold.disks.at_disk;
          one_busy = one_busy;
        };
        read_out = subst (λ (b : Bool). IsTrue b ↔ IsTrue (option_map_or (λ s. is_read_out s.asked) w.taste false))
            (sym (any-kept_some (λ (z : Bio). is_taste_root z.owner) parted.bios ∙ ap (λ (n : ℕ). not (n == 0)) as_many
            ∙ sym (any-kept_some (λ (z : Bio). is_taste_root z.owner) w.bios))) hold.read_out;
        owners = each_after (HasItsOwner w) (HasItsOwner w)
            (owner_stays w.handles w.taste x (wait x) refl refl refl x.owner) (λ z e comes. comes)
            (kids_any (HasItsOwner w) (λ k z. omega (arith, below_next)) 0 targets) hold.owners;
        results = each_after HasItsResult HasItsResult (λ has up. absurd cc) (λ z e has. has)
            (kids_any HasItsResult (λ k z up. absurd cc) 0 targets) hold.results;
        read = record {
          one = rw (sym (length-filter (λ (z : Bio). is_taste_root z.owner) parted.bios) ∙ as_many
              ∙ length-filter (λ (z : Bio). is_taste_root z.owner) w.bios) hold.read.one;
          sector = each_after (ReadsSector w) (ReadsSector w) (λ reads. reads) (λ z e reads. reads)
              (kids_any (ReadsSector w) (λ k z reads. absurd cc) 0 targets) hold.read.sector;
        };
      }

-- A Start that splits a bio keeps a mesh firm.

-- so many bytes from a place of as many
bytes_cut : (at len total : ℕ) (bytes : List ℕ) → length bytes ≡ total → at + len ≤ total
    → length (take len (drop at bytes)) ≡ len
bytes_cut at len total bytes is inside =
    length-take len (drop at bytes)
    ∙ (let e : min len (length (drop at bytes)) ≡ len = omega (arith, length-drop at bytes, is, inside) in e)

-- what is mapped from some items isn't empty
map_some : {X Y : Type 0} (f : X → Y) (xs : List X) → xs ≢ [] → map f xs ≢ []
map_some f [] some none = some refl
map_some f (x ∷ xs) some none = cc

module _ (w : World) (firm : Firm w) (x : Bio) (here : Contains w.bios x) (p : Provider)
    (at_target : provider_at w.topology x.target ≡ Some p)
    (g : Geom Config) (of_it : geom_at w.topology p.geom ≡ Some g) (no_disk : disk_of g.config ≡ None) where
  -- the graph
  abbrev t : Topology Config
  t = w.topology

  -- the provider stands
  p_stands : Contains t.providers p
  p_stands = find-Contains (λ (v : Provider). v.number == x.target) t.providers p at_target

  -- so does its geom
  g_stands : Contains t.geoms g
  g_stands = find-Contains (λ (v : Geom Config). v.number == p.geom) t.geoms g of_it

  -- the geom's number
  geom_number : g.number ≡ p.geom
  geom_number = number_found (λ (v : Geom Config). v.number) t.geoms p.geom g of_it

  -- it is one of the geom's providers
  p_offered : Contains (providers_of t g.number) p
  p_offered = Contains-filter (λ (v : Provider). v.geom == g.number) t.providers p p_stands
      (eq-eqb p.geom g.number (sym geom_number))

  -- the sizes of a concat are whole sectors
  sizes_by : (config : Config) → g.config ≡ config → AreWholeSizes p.sector config
  sizes_by (Concat id places sizes) is =
      let class : IsOfItsClass g = All-contains IsOfItsClass t.geoms g firm.graph.numbers.classes g_stands in
      let kind = concat_kind g.kind id places sizes (rw is at class.config) in
      let fits : FitsPlaces t g = All-contains (FitsPlaces t) t.geoms g firm.sizes.places g_stands in
      let sum_fact : HasItsSum t g = All-contains (HasItsSum t) t.geoms g firm.sizes.sums g_stands in
      let total : p.size ≡ joined_size g.config =
      All-contains (λ (v : Provider). v.size ≡ joined_size g.config) (providers_of t g.number) p
      (sum_fact (inl kind)) p_offered in
      let size : p.size ≡ sum sizes = total ∙ ap joined_size is in
      sizes_whole t g p 0 places sizes (rw is at fits)
      (λ i. subst (λ (n : ℕ). component g.config n ≡ option_flatten (slice_get places i))
      (let e : i ≡ 0 + i = omega arith in e)
      (subst (λ (c : Config). component c i ≡ option_flatten (slice_get places i)) (sym is) refl))
      (λ o below. subst (λ (c : Config). IsSomeAnd (place c p.name o) (IsPlaceInside t g p)) is
      (is_placed w firm x here p at_target g of_it no_disk o (omega (arith, size))))
  sizes_by _ is = tt

  -- the consumers of the geom have the count
  count : (c : Consumer) → c.geom ≡ g.number → HasCountFor (granted_in w) w.topology x c
  count = counted w firm x here p at_target g of_it no_disk

  -- they are of the geom of the provider to which the bio goes
  of_the_geom : (c : Consumer) → c.geom ≡ g.number → (q : Provider) → provider_at t x.target ≡ Some q → c.geom ≡ q.geom
  of_the_geom c of_geom q at = let same : p ≡ q = cc in of_geom ∙ geom_number ∙ ap (λ (v : Provider). v.geom) same

  -- the bio is in order
  order : IsBioInOrder (granted_in w) w.topology x
  order = All-contains (IsBioInOrder (granted_in w) w.topology) w.bios x firm.bios.order here

  module _ (moves : is_flush x.cmd ≡ false) where
    -- the range of the bio
    range : IsRangeInside x p
    range = range_of w firm x here p at_target moves

    -- what the configuration asks of the sector size
    whole : IsWholeIn g.config p.sector
    whole =
        let first = first_below w firm x here p at_target g of_it no_disk in
        subst (λ (n : ℕ). IsWholeIn g.config n) first.1.sector
        (whole_below w firm x here p at_target g of_it no_disk first.0 first.1)

    -- the pieces are whole sectors
    wholes : AllByRecursion (IsWholePiece p.sector) (pieces g.config p x.offset x.len)
    wholes =
        let media : IsMediaSize p.size p.sector =
        All-contains
        (λ (v : Provider). IsMediaSize v.size v.sector) t.providers p firm.graph.providers.sizes p_stands in
        pieces_whole p.sector p x.offset x.len g.config
        (dvd_of_mod-eq-zero p.sector range.offset_whole) (dvd_of_mod-eq-zero p.sector range.len_whole)
        (dvd_of_mod-eq-zero p.sector media.whole)
        whole (sizes_by g.config refl)

    -- a piece that lies below, and is of whole sectors
    abbrev GoodPiece : Piece → Type 0
    GoodPiece s = LiesBelow w firm x here p at_target g of_it no_disk moves s × IsWholePiece p.sector s

    -- what lies below two places of one component is of one provider
    same_below : (a b : Spot) → a.component ≡ b.component → (l : Below t g p a) (r : Below t g p b)
        → l.provider ≡ r.provider
    same_below a b same l r =
        let is : component g.config a.component ≡ Some l.number = l.is in
        let is_too : component g.config b.component ≡ Some r.number = r.is in
        let here_too : component g.config a.component ≡ Some r.number =
        subst (λ (k : ℕ). component g.config k ≡ Some r.number) (sym same) is_too in
        let numbers : l.number ≡ r.number = cc in
        let found : consumer_at t l.number ≡ Some l.consumer = l.found in
        let found_too : consumer_at t l.number ≡ Some r.consumer =
        subst (λ (k : ℕ). consumer_at t k ≡ Some r.consumer) (sym numbers) r.found in
        let consumers : l.consumer ≡ r.consumer = cc in
        let to_it : l.consumer.provider ≡ Some l.under = l.to_it in
        let to_it_too : l.consumer.provider ≡ Some r.under =
        subst (λ (c : Consumer). c.provider ≡ Some r.under) (sym consumers) r.to_it in
        let unders : l.under ≡ r.under = cc in
        let stands : provider_at t l.under ≡ Some l.provider = l.stands in
        let stands_too : provider_at t l.under ≡ Some r.provider =
        subst (λ (k : ℕ). provider_at t k ≡ Some r.provider) (sym unders) r.stands in
        cc

    -- such a piece goes down
    piece_goes : (s : Piece) (c : ℕ) → component g.config s.child ≡ Some c → GoodPiece s
        → GoesDown w x (record { consumer = c; piece = s })
    piece_goes s c is good =
        let between : IsBetween 0 x.len s = good.0.0 in
        let some : 0 < s.span.len = between.some in
        let high : s.at + s.span.len ≤ x.len = between.to_high in
        let first = good.0.1 0 some in
        let last = good.0.1 (s.span.len - 1) (omega arith) in
        let one : last.provider ≡ first.provider = same_below _ _ refl last first in
        let there : component g.config s.child ≡ Some first.number = first.is in
        let number : first.number ≡ c = cc in
        let low : s.span.offset + (s.span.len - 1) < last.provider.size = last.low in
        let inside : s.span.offset + (s.span.len - 1) < first.provider.size =
        subst (λ (q : Provider). s.span.offset + (s.span.len - 1) < q.size) one low in
        record {
          consumer = first.consumer;
          found = subst (λ (n : ℕ). consumer_at t n ≡ Some first.consumer) number first.found;
          under = first.under;
          to_it = first.to_it;
          provider = first.provider;
          stands = first.stands;
          of_geom = of_the_geom first.consumer first.of_geom;
          count = count first.consumer first.of_geom;
          range = λ moving. record {
            some_byte = omega arith;
            not_long = omega (arith, range.not_long);
            offset_whole = subst (λ (n : ℕ). s.span.offset % n ≡ 0) (sym first.sector)
                (mod-eq-zero_of_dvd p.sector good.1.offset);
            len_whole = subst (λ (n : ℕ). s.span.len % n ≡ 0) (sym first.sector)
                (mod-eq-zero_of_dvd p.sector good.1.len);
            inside = omega arith;
          };
          bytes = λ write. bytes_cut s.at s.span.len x.len x.bytes (order.bytes write) high;
        }

    -- the target of a piece that is good
    target_goes : (s : Piece) (z : PieceTarget) (o : Option ℕ) → component g.config s.child ≡ o
        → option_map (λ c. record { consumer = c; piece = s }) o ≡ Some z → GoodPiece s → GoesDown w x z
    target_goes s z None is found good = absurd cc
    target_goes s z (Some c) is found good =
        let same : record { consumer = c; piece = s } ≡ z = cc in
        subst (GoesDown w x) same (piece_goes s c is good)

    -- so all of them go down
    pieces_go : AllByRecursion (GoesDown w x) (piece_targets g.config p x)
    pieces_go = rw moves
        (mapped_by GoodPiece (GoesDown w x)
        (λ (s : Piece). option_map (λ c. record { consumer = c; piece = s }) (component g.config s.child))
        (λ s z found good. target_goes s z (component g.config s.child) refl found good)
        (pieces g.config p x.offset x.len)
        (both_by_recursion (LiesBelow w firm x here p at_target g of_it no_disk moves) (IsWholePiece p.sector)
        (pieces g.config p x.offset x.len)
        (pieces_below w firm x here p at_target g of_it no_disk moves) wholes))

    -- pieces that follow each other over some bytes are some
    some_follow : (ss : List Piece) → Follow 0 x.len ss → ss ≡ [] → ⊥
    some_follow [] follows none = omega (arith, follows, range.some_byte)
    some_follow (s ∷ ss) follows none = cc

    -- there are some
    some_pieces : piece_targets g.config p x ≢ []
    some_pieces none =
        some_follow (pieces g.config p x.offset x.len) (follow w firm x here p at_target g of_it no_disk moves)
        (sym (no_piece_lost w firm x here p at_target g of_it no_disk moves)
        ∙ ap (λ (zs : List PieceTarget). map (λ (z : PieceTarget). z.piece) zs) none)

  module _ (flushes : is_flush x.cmd ≡ true) where
    -- the geom is open
    has_open : IsTrue
        (list_any (λ (v : Provider). not (is_zero (have (granted_in w) t v.number))) (providers_of t g.number))
    has_open = any-contained (λ (v : Provider). not (is_zero (have (granted_in w) t v.number)))
        (providers_of t g.number) p p_offered
        (not_from_false (is_zero (have (granted_in w) t p.number)) (is_open w firm x here p at_target))

    -- so its components are attached consumers of it
    attached : All (λ c. IsSomeAnd (consumer_at t c) (λ v. (v.geom ≡ g.number) × IsSome v.provider))
        (components g.config)
    attached =
        (All-contains (HasItsComponents (granted_in w) w.topology) t.geoms g firm.demand.components g_stands)
        (inr has_open)

    -- a FLUSH goes down to what a component is attached to
    flush_goes : (c : ℕ) (o : Option Consumer) → consumer_at t c ≡ o
        → IsSomeAnd o (λ v. (v.geom ≡ g.number) × IsSome v.provider)
        → GoesDown w x (record { consumer = c; piece = empty_piece })
    flush_goes c None found fact = absurd fact
    flush_goes c (Some v) found fact =
        let stands : Contains t.consumers v = find-Contains (λ (u : Consumer). u.number == c) t.consumers v found in
        let lives : IsSome (option_and_then (provider_at t) v.provider) =
        All-contains
        (λ (u : Consumer). IsSome (option_and_then
        (provider_at t) u.provider)) t.consumers v firm.graph.attached stands in
        let n = has v.provider fact.1 in
        let q = has (provider_at t n.item) (subst (λ o. IsSome (option_and_then (provider_at t) o)) n.is lives) in
        record {
          consumer = v;
          found = found;
          under = n.item;
          to_it = n.is;
          provider = q.item;
          stands = q.is;
          of_geom = of_the_geom v fact.0;
          count = count v fact.0;
          range = λ moving. absurd cc;
          bytes = λ write. let moving : is_flush x.cmd ≡ false = write_moves x.cmd write in absurd cc;
        }

    -- for each component
    flush_each : (cs : List ℕ) → AllByRecursion
        (λ c. IsSomeAnd (consumer_at t c) (λ v. (v.geom ≡ g.number) × IsSome v.provider)) cs
        → AllByRecursion (GoesDown w x) (map (λ c. record { consumer = c; piece = empty_piece }) cs)
    flush_each [] facts = tt
    flush_each (c ∷ cs) facts = (flush_goes c (consumer_at t c) refl facts.0, flush_each cs facts.1)

    -- so a FLUSH goes down
    flushes_go : AllByRecursion (GoesDown w x) (piece_targets g.config p x)
    flushes_go = rw flushes (flush_each (components g.config)
        (recursion_from_All (λ c. IsSomeAnd (consumer_at t c) (λ v. (v.geom ≡ g.number) × IsSome v.provider))
        (components g.config) attached))

    -- and to some
    some_flushes : piece_targets g.config p x ≢ []
    some_flushes =
        let first = first_below w firm x here p at_target g of_it no_disk in
        rw flushes (map_some (λ c. record { consumer = c; piece = empty_piece }) (components g.config)
        (some_components g.config first.0.component first.1.number first.1.is))

  -- all go down
  pub all_go : AllByRecursion (GoesDown w x) (piece_targets g.config p x)
  all_go = elim (cases_Bool (is_flush x.cmd)) [ inl flushes ↦ flushes_go flushes | inr moves ↦ pieces_go moves ]

  -- and there are some
  pub some_go : piece_targets g.config p x ≢ []
  some_go = elim (cases_Bool (is_flush x.cmd)) [ inl flushes ↦ some_flushes flushes | inr moves ↦ some_pieces moves ]

-- the world after a bio is split
pub split_firm : (w : World) (firm : Firm w) (x : Bio) (found : bio_at w x.number ≡ Some x) → is_down x.phase ≡ true
    → (p : Provider) (g : Geom Config) → provider_at w.topology x.target ≡ Some p
    → geom_at w.topology p.geom ≡ Some g → disk_of g.config ≡ None
    → Firm (split_bio w x (piece_targets g.config p x)).0
split_firm w firm x found down p g at_target of_it no_disk =
    let here : Contains w.bios x = find-Contains (λ (v : Bio). v.number == x.number) w.bios x found in
    let targets = piece_targets g.config p x in
    bios_are_apart w (parted w x targets).bios (parted w x targets).next_bio firm
    (parted_hold w x targets firm.bios found down p g at_target of_it refl
    (some_go w firm x here p at_target g of_it no_disk) (all_go w firm x here p at_target g of_it no_disk))
