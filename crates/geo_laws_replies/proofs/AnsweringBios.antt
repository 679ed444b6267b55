-- What a step of a request does to the lines that are unanswered.
use Rattle.std.specs.Prelude.{◌≡◌, ℕ, ◌+◌, ◌==◌, Bool, true, false, not, List, [], ◌∷◌, ◌++◌, map, filter, sum_by, Option, Some, None, cond, if◌then◌else◌}
use Rattle.std.specs.List.{AllByRecursion, enumerate_from}
use Rattle.std.specs.Option.{option_map_or}
use Rattle.std.proofs.Common.{refl, sym, ◌∙◌, ap, subst, arith}
use Rattle.std.proofs.lemmas.Bool.{not-false}
use Rattle.std.proofs.lemmas.List.Sums.{sum_by-cons, sum_by-append, sum_by_push}
use Rattle.geo_base.specs.declared.errno.Errno.TheVariants.{EIO}
use Rattle.geo_model.specs.declared.step.BioResult.TheVariants as results
use Rattle.geo_model.specs.declared.step.Owner.{Owner}
use Rattle.geo_model.specs.declared.step.Owner.TheVariants as owners
use Rattle.geo_model.specs.declared.step.Phase.TheVariants as phases
use Rattle.geo_model.specs.Words.{change_where}
use Rattle.geo_model.specs.Topology.{Topology}
use Rattle.geo_model.specs.Graph.{AreNumbers}
use Rattle.geo_model.specs.World.{World, Config, Bio, bio_at, change_bio, is_child_of}
use Rattle.geo_model.specs.Bios.{PieceTarget, Way, Bounces, Fails, Sends, Splits, Passes, piece_child, piece_children, split_bio, up_to, up_child, up_with, without_bio, complete_parent, is_complete, joined_result, child_results, start_by}
use Rattle.geo_laws_graph.proofs.Lists.{changed}
use Rattle.geo_laws_owed.proofs.Counting.{sum_gone, sum_of_kept}
use Rattle.geo_laws_replies.specs.ReplyLaws.{is_of_line, counts_bio, counts_reply, unanswered}

module _ (line : ℕ) where
  -- what a request of an owner counts
  abbrev owner_weighs : Owner → ℕ
  owner_weighs o = cond (is_of_line line o) 1 0

  -- a request whose owner stays counts as before, by whether it is changed
  counts_alike : (change : Bio → Bio) → ((x : Bio) → (change x).owner ≡ x.owner) → (x : Bio) (b : Bool)
      → counts_bio line (if b then change x else x) ≡ counts_bio line x
  counts_alike change same x true = ap owner_weighs (same x)
  counts_alike change same x false = refl

  -- so do all
  pub changed_counts : (hit : Bio → Bool) (change : Bio → Bio) → ((x : Bio) → (change x).owner ≡ x.owner)
      → (xs : List Bio) → sum_by (counts_bio line) (change_where hit change xs) ≡ sum_by (counts_bio line) xs
  changed_counts hit change same [] = refl
  changed_counts hit change same (x ∷ xs) =
      omega (
        arith,
        sum_by-cons (counts_bio line) (if hit x then change x else x) (change_where hit change xs),
        sum_by-cons (counts_bio line) x xs,
        counts_alike change same x (hit x),
        changed_counts hit change same xs,
      )

  -- a request that is changed, but for its owner
  pub change_answers : (w : World) (b : ℕ) (change : Bio → Bio) → ((x : Bio) → (change x).owner ≡ x.owner)
      → unanswered line (change_bio w b change) ≡ unanswered line w
  change_answers w b change same =
      let sums = changed_counts (λ (x : Bio). x.number == b) change same w.bios in omega (arith, sums)

  -- a request that goes
  pub gone_answers : (w : World) (x : Bio) → AreNumbers (map (λ (y : Bio). y.number) w.bios) w.next_bio
      → bio_at w x.number ≡ Some x
      → unanswered line (without_bio w x.number) + counts_bio line x ≡ unanswered line w
  gone_answers w x order found =
      let sums = sum_gone (λ (y : Bio). y.number) x.number (counts_bio line) x w.next_bio w.bios order found in
      omega (arith, sums)

  -- a request that is new
  pub submit_answers : (w : World) (x : Bio)
      → unanswered line (record w { bios = w.bios ++ x ∷ []; next_bio = w.next_bio + 1 })
      ≡ unanswered line w + counts_bio line x
  submit_answers w x = let sums = sum_by_push (counts_bio line) w.bios x in omega (arith, sums)

  -- Start

  -- pieces are of no line
  pieces_count : (t : Topology Config) (next : ℕ) (x : Bio) (items : List (ℕ × PieceTarget))
      → sum_by (counts_bio line) (map (λ item. piece_child t next x item.0 item.1) items) ≡ 0
  pieces_count t next x [] = refl
  pieces_count t next x (item ∷ items) =
      omega (
        arith,
        sum_by-cons (counts_bio line) (piece_child t next x item.0 item.1)
            (map (λ item. piece_child t next x item.0 item.1) items),
        pieces_count t next x items,
      )

  -- a request that is split
  split_answers : (w : World) (x : Bio) (targets : List PieceTarget)
      → unanswered line (split_bio w x targets).0 ≡ unanswered line w
  split_answers w x targets =
      let waiting : World = change_bio w x.number (λ y. record y { phase = phases.Waiting }) in
      let same = change_answers w x.number (λ y. record y { phase = phases.Waiting }) (λ y. refl) in
      let children : List Bio = piece_children w.topology w.next_bio x targets in
      let none : sum_by (counts_bio line) children ≡ 0 =
      pieces_count w.topology w.next_bio x (enumerate_from 0 targets) in
      let both : sum_by (counts_bio line) (waiting.bios ++ children)
      ≡ sum_by (counts_bio line) waiting.bios + sum_by (counts_bio line) children =
      sum_by-append (counts_bio line) waiting.bios children in
      omega (arith, same, none, both)

  -- a Start, by the way that the request goes
  pub way_answers : (w : World) (x : Bio) (way : Way)
      → unanswered line (start_by w x way).0 + counts_reply line (start_by w x way).1 ≡ unanswered line w
  way_answers w x (Bounces e) =
      let same = change_answers w x.number (up_with (results.Failed e)) (λ y. refl) in omega (arith, same)
  way_answers w x (Fails g) =
      let same = change_answers w x.number (up_with (results.Failed EIO)) (λ y. refl) in omega (arith, same)
  way_answers w x (Sends disk) =
      let same = change_answers w x.number (λ y. record y { phase = phases.Sent }) (λ y. refl) in omega (arith, same)
  way_answers w x (Splits targets) = let same = split_answers w x targets in omega (arith, same)
  way_answers w x (Passes g targets) = let same = split_answers w x targets in omega (arith, same)

  -- Up

  -- a child is of no line
  child_counts : (o : Owner) (n : ℕ) → is_child_of o n ≡ true → owner_weighs o ≡ 0
  child_counts (owners.Child parent index) n child = refl
  child_counts (owners.Line handle l) n child = absurd (let no : ⊥ = cc in no)
  child_counts owners.Taste n child = refl

  -- so the children that go count nothing
  children_count : (n : ℕ) (xs : List Bio)
      → AllByRecursion (λ (z : Bio). not (is_child_of z.owner n) ≡ false → counts_bio line z ≡ 0) xs
  children_count n [] = tt
  children_count n (x ∷ xs) = (
    λ out. child_counts x.owner n (not-false (is_child_of x.owner n) out),
    children_count n xs,
  )

  -- a parent goes up, and its children go
  complete_answers : (w : World) (y : Bio) → unanswered line (complete_parent w y) ≡ unanswered line w
  complete_answers w y =
      let risen : World = change_bio w y.number (up_with (joined_result y.cmd (child_results w y.number))) in
      let same = change_answers w y.number (up_with (joined_result y.cmd (child_results w y.number))) (λ z. refl) in
      let kept = sum_of_kept (counts_bio line) (λ (z : Bio). not (is_child_of z.owner y.number)) risen.bios
      (children_count y.number risen.bios) in
      omega (arith, same, kept)

  -- a child goes up, by whether all are Done and the parent that is found
  child_by : (w : World) (b : Bool) (o : Option Bio)
      → unanswered line (if b then option_map_or (λ y. complete_parent w y) o w else w) ≡ unanswered line w
  child_by w false o = refl
  child_by w true None = refl
  child_by w true (Some y) = complete_answers w y

  module _ (w : World) (x : Bio) (order : AreNumbers (map (λ (y : Bio). y.number) w.bios) w.next_bio)
      (found : bio_at w x.number ≡ Some x) where
    -- what a request of this owner counts
    owner_counts : (o : Owner) → x.owner ≡ o → counts_bio line x ≡ owner_weighs o
    owner_counts o own = ap owner_weighs own

    -- an Up, by the owner
    pub owner_answers : (o : Owner) → x.owner ≡ o
        → unanswered line (up_to w x o).0 + counts_reply line (up_to w x o).1 ≡ unanswered line w
    owner_answers (owners.Line handle l) own =
        let gone = gone_answers w x order found in
        let counts = owner_counts (owners.Line handle l) own in
        omega (arith, gone, counts)
    owner_answers owners.Taste own =
        let gone = gone_answers w x order found in
        let counts = owner_counts owners.Taste own in
        omega (arith, gone, counts)
    owner_answers (owners.Child parent index) own =
        let gathered : World = change_bio w x.number (λ y. record y { phase = phases.Done }) in
        let same = change_answers w x.number (λ y. record y { phase = phases.Done }) (λ y. refl) in
        let up = child_by gathered (is_complete gathered parent) (bio_at gathered parent) in
        omega (arith, same, up)
