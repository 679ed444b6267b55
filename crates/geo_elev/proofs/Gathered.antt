-- The heads of disks, and what waits for them, gathered anew.
use Rattle.geo_base.proofs.MemberLists.{Contains-map}
use Rattle.std.specs.Prelude.{◌≡◌, ℕ, zero, suc, ◌+◌, ◌<◌, ◌≤◌, nat_le, Bool, true, false, not, ◌&&◌, List, [], ◌∷◌, ◌++◌, find, filter, map, length, Option, Some, None, option_map, slice_set, if◌then◌else◌, ◌/◌, ◌==◌}
use Rattle.std.specs.List.{range_with_len, AllByRecursion}
use Rattle.std.proofs.Common.{append-nil, refl, sym, ◌∙◌, ap, subst, arith, inl, inr, rules}
use Rattle.std.proofs.lemmas.Bool.{eq-eqb, ne_eqb, leb-true, cases_Bool, le-ltb, eqb-true}
use Rattle.std.proofs.lemmas.List.Sums.{fold-append}
use Rattle.std.proofs.lemmas.List.Elements.{All-contains}
use Rattle.geo_base.proofs.FindLists.{found_passes}
use Rattle.geo_model.specs.declared.step.Entry.{Entry}
use Rattle.geo_model.specs.declared.step.Outcome.{Outcome}
use Rattle.geo_model.specs.declared.step.Request.{Request}
use Rattle.geo_model.specs.Words.{is_flush}
use Rattle.geo_model.specs.World.{World, Bio, bio_at}
use Rattle.geo_model.specs.Fitting.{Firm}
use Rattle.geo_headline.specs.Sweep.{Waiting, waiting_of, is_sent_to, head_after, head_of, waiting_for}
use Rattle.geo_laws_graph.proofs.Lists.{Rise, rise-from, found_itself}
use Rattle.geo_laws_graph.proofs.Members.{find-Contains}
use Rattle.geo_drain.specs.Meshes.{Spot, MeshView, IsHistory, world_of, spot_in, spot_of}
use Rattle.geo_drain.proofs.HandedOn.{firm_after}
use Rattle.geo_elev.specs.declared.disks.DiskHead.{DiskHead}
use Rattle.geo_elev.specs.Lists.{are_below, one_at}
use Rattle.geo_elev.specs.Disks.{ChangesOne, HeadMoves, Queues}
use Rattle.geo_elev.specs.Heads.{disk_heads, no_head}
use Rattle.geo_elev.specs.Following.{place_of}
use Rattle.geo_elev.specs.Gathering.{numbered_below, waiting_below, bare_head, bare_heads, head_below, heads_below, PutsAtSpot}
use Rattle.geo_elev.proofs.Following.{all_same, change_one, of_waiting}
use Rattle.geo_model.specs.Bios.{sector_at}
use Rattle.geo_model.specs.declared.step.Outcome.TheVariants as outcomes

-- What waits for a disk, gathered by a walk over the bios in order of numbers.

-- those whose numbers rise
abbrev Rising : ℕ → List Bio → ℕ → Type 0
Rising low xs high = Rise low (map (λ (x : Bio). x.number) xs) high

-- none is below 0
pub none_below : (xs : List Bio) → numbered_below 0 xs ≡ []
none_below [] = refl
none_below (x ∷ xs) = rw (le-ltb x.number 0 (omega arith)) (none_below xs)

-- nor below the first
high_none : (n low high : ℕ) (xs : List Bio) → Rising low xs high → n ≤ low → numbered_below n xs ≡ []
high_none n low high [] rise most = refl
high_none n low high (x ∷ xs) rise most =
    search (rules, high_none n (x.number + 1) high xs rise.2 (omega (arith, rise.0, most)))

-- up to the next one
pub below_more : (from low high : ℕ) (y : Bio) (xs : List Bio) → Rising low xs high
    → find (λ x. nat_le from x.number) xs ≡ Some y → numbered_below (y.number + 1) xs ≡ numbered_below from xs ++ y ∷ []
below_more from low high y [] rise found = absurd (let bad : ⊥ = cc in bad)
below_more from low high y (x ∷ xs) rise found =
    elim (cases_Bool (nat_le from x.number)) [
      | inl e ↦
          search (
            rules,
            high_none (x.number + 1) (x.number + 1) high xs rise.2 (omega arith),
            le-ltb x.number from,
            high_none from (x.number + 1) high xs rise.2,
          )
      | inr e ↦
          search (
            rules,
            found_passes (λ (z : Bio). nat_le from z.number) xs y,
            below_more from (x.number + 1) high y xs rise.2,
          )
    ]

-- where there is no next one, these are all
pub all_below : (from : ℕ) (xs : List Bio) → find (λ x. nat_le from x.number) xs ≡ None → numbered_below from xs ≡ xs
all_below from [] none = refl
all_below from (x ∷ xs) none = search (rules, all_below from xs)

module _ (w : World) (disk : ℕ) where
  -- one bio more, that waits for the disk or not
  pub one_more : (y : Bio) (c : Bool) → is_sent_to w disk y ≡ c → (xs : List Bio)
      → map (waiting_of w) (filter (is_sent_to w disk) (xs ++ y ∷ []))
      ≡ map (waiting_of w) (filter (is_sent_to w disk) xs) ++ (if c then waiting_of w y ∷ [] else [])
  one_more y true e [] = rw e refl
  one_more y false e [] = rw e refl
  one_more y c e (x ∷ xs) = search (rules, one_more y c e xs)

  -- all that were gathered have smaller numbers
  pub gathered_below : (from b : ℕ) (xs : List Bio) → from ≤ b
      → are_below b (map (waiting_of w) (filter (is_sent_to w disk) (numbered_below from xs))) ≡ true
  gathered_below from b [] most = refl
  gathered_below from b (x ∷ xs) most = search (rules, gathered_below from b xs most)

-- The spot of a bio is what waits for its disk.

module _ (w : World) (y : Bio) where
  -- what a spot says
  abbrev pub Says : Spot → Type 0
  Says spot =
      ((d : ℕ) → is_sent_to w d y ≡ (spot.disk == d)) × (waiting_of w y ≡ one_at y.number (place_of spot))

  -- the spot of the bio on a disk
  abbrev spot_on : ℕ → Spot
  spot_on d = record { disk = d; cmd = y.cmd; first = y.offset / sector_at w.topology y.target }

  -- a bio with a spot waits for its disk alone
  pub spot_says : (spot : Spot) → spot_in w.topology y ≡ Some spot → Says spot
  spot_says spot is = search rules

  -- a bio without one waits for none
  pub no_spot_says : spot_in w.topology y ≡ None → (d : ℕ) → is_sent_to w d y ≡ false
  no_spot_says is k = search rules

-- so what holds of all that waits for the disk holds of it
pub spot_waits : (w : World) (b : ℕ) (spot : Spot) → spot_of w b ≡ Some spot → (P : Waiting → Type 0)
    → AllByRecursion P (waiting_for w spot.disk) → P (one_at b (place_of spot))
spot_waits w b spot is P all = by (bio_at w b) refl
  where
    by : (o : Option Bio) → bio_at w b ≡ o → P (one_at b (place_of spot))
    by None e = absurd (let no : None ≡ Some spot = rw e at is in let bad : ⊥ = cc in bad)
    by (Some y) e =
        search (
          rules,
          eqb-true y.number b (found_passes (λ (x : Bio). x.number == b) w.bios y e),
          of_waiting w spot.disk (λ (x : Bio). x.number == b) y P w.bios e,
        )

-- Forgetting

-- so many of the disks are forgotten
abbrev pub gone : ℕ → List DiskHead → List DiskHead
gone zero xs = xs
gone (suc n) [] = []
gone (suc n) (x ∷ xs) = no_head 0 ∷ gone n xs

-- one more
gone_one : (n : ℕ) (xs : List DiskHead) → slice_set (gone n xs) n (no_head 0) ≡ gone (suc n) xs
gone_one zero [] = refl
gone_one zero (x ∷ xs) = refl
gone_one (suc n) [] = refl
gone_one (suc n) (x ∷ xs) = ap (λ ys. no_head 0 ∷ ys) (gone_one n xs)

pub gone_next : (n : ℕ) (xs : List DiskHead) → slice_set (gone n xs) n (no_head 0) ≡ gone (n + 1) xs
gone_next n xs = let next : suc n ≡ n + 1 = omega arith in gone_one n xs ∙ ap (λ k. gone k xs) next

-- they are as many
pub gone_length : (n : ℕ) (xs : List DiskHead) → length (gone n xs) ≡ length xs
gone_length zero xs = refl
gone_length (suc n) [] = refl
gone_length (suc n) (x ∷ xs) = ap suc (gone_length n xs)

-- all
pub gone_all : (n low : ℕ) (xs : List DiskHead) → length xs ≤ n
    → gone n xs ≡ map no_head (range_with_len low (length xs))
gone_all zero low [] most = refl
gone_all zero low (x ∷ xs) most = absurd (omega (arith, most))
gone_all (suc n) low [] most = refl
gone_all (suc n) low (x ∷ xs) most = ap (λ ys. no_head 0 ∷ ys) (gone_all n (low + 1) xs (omega (arith, most)))

-- The heads of a log

module _ (log : List Entry) (e : Entry) (n : ℕ) where
  head_then : (disk : ℕ) → head_of (log ++ e ∷ []) disk ≡ head_after disk (head_of log disk) e.outcome
  head_then disk = fold-append (λ head (x : Entry). head_after disk head x.outcome) 0 log (e ∷ [])

  bare_same : (o : Outcome) → e.outcome ≡ o → (disk : ℕ) → head_after disk (head_of log disk) o ≡ head_of log disk
      → bare_head log disk ≡ bare_head (log ++ e ∷ []) disk
  bare_same o is disk same =
      ap (λ (k : ℕ). record { head = k; waiting = [] })
      (sym (head_then disk ∙ ap (head_after disk (head_of log disk)) is ∙ same))

  -- a request moves the head of its disk
  pub moved_then : (q : Request) → e.outcome ≡ outcomes.Asked q → (new : List DiskHead)
      → ChangesOne q.disk (HeadMoves q) (bare_heads log n) new → new ≡ bare_heads (log ++ e ∷ []) n
  moved_then q is new does =
      change_one (bare_head log) (bare_head (log ++ e ∷ [])) (HeadMoves q) q.disk n
      (λ j other. bare_same (outcomes.Asked q) is j
      (ap (λ (c : Bool). if c && not (is_flush q.cmd) then q.first else head_of log j)
      (ne_eqb q.disk j (λ same. other (sym same)))))
      (λ y so. so ∙ ap (λ (k : ℕ). record { head = k; waiting = [] })
      (sym (head_then q.disk ∙ ap (head_after q.disk (head_of log q.disk)) is
      ∙ ap (λ (c : Bool). if c && not (is_flush q.cmd) then q.first else head_of log q.disk)
      (eq-eqb q.disk q.disk refl)))) new does

-- The walk

-- the bio of a number that was found
found_as : (b : ℕ) (o : Option Bio) → Some b ≡ option_map (λ x. x.number) o → (y : Bio) × (o ≡ Some y) × (y.number ≡ b)
found_as b None is = absurd (let bad : ⊥ = cc in bad)
found_as b (Some y) is = (y, refl, cc)

module _ (m : MeshView) (history : IsHistory m) where
  abbrev w : World
  w = world_of m

  firm : Firm w
  firm = firm_after m.plan m.facts history.plan.begins history.facts m.log

  rising : Rise 0 (map (λ (x : Bio). x.number) w.bios) w.next_bio
  rising = rise-from w.next_bio (map (λ (x : Bio). x.number) w.bios) firm.bios.numbers

  -- none is gathered at first
  pub walk_begins : (log : List Entry) (n : ℕ) → bare_heads log n ≡ heads_below w log 0 n
  walk_begins log n =
      all_same (bare_head log) (head_below w log 0)
      (λ j.
      ap (λ (xs : List Bio). record { head = head_of log j; waiting = map (waiting_of w) (filter (is_sent_to w j) xs) })
      (sym (none_below w.bios))) 0 n

  -- all are at the end
  pub walk_ends : (from : ℕ) → None ≡ option_map (λ (x : Bio). x.number) (find (λ x. nat_le from x.number) w.bios)
      → (log : List Entry) (n : ℕ) → heads_below w log from n ≡ disk_heads w log n
  walk_ends from is log n = search (rules, all_below from w.bios)

  module _ (from b : ℕ)
      (next : Some b ≡ option_map (λ (x : Bio). x.number) (find (λ x. nat_le from x.number) w.bios)) where
    found : (y : Bio) × (find (λ x. nat_le from x.number) w.bios ≡ Some y) × (y.number ≡ b)
    found = found_as b (find (λ x. nat_le from x.number) w.bios) next

    abbrev y : Bio
    y = found.0

    -- it isn't below
    pub not_before : from ≤ b
    not_before =
        search (rules, leb-true from y.number (found_passes (λ (x : Bio). nat_le from x.number) w.bios y found.1))

    -- it is the bio of its number
    here : bio_at w b ≡ Some y
    here =
        subst (λ (k : ℕ). bio_at w k ≡ Some y) found.2
        (found_itself (λ (x : Bio). x.number) w.next_bio w.bios y firm.bios.numbers
        (find-Contains (λ (x : Bio). nat_le from x.number) w.bios y found.1))

    -- its number was given out
    pub was_given : b < w.next_bio
    was_given =
        subst (λ (k : ℕ). k < w.next_bio) found.2
        (All-contains (λ n. n < w.next_bio) (map (λ (x : Bio). x.number) w.bios) y.number firm.bios.numbers.1
        (Contains-map (λ (x : Bio). x.number) w.bios y
        (find-Contains (λ (x : Bio). nat_le from x.number) w.bios y found.1)))

    -- what was gathered then
    then_waits : (disk : ℕ) (c : Bool) → is_sent_to w disk y ≡ c
        → waiting_below w (b + 1) disk ≡ waiting_below w from disk ++ (if c then waiting_of w y ∷ [] else [])
    then_waits disk c e =
        ap (λ (xs : List Bio). map (waiting_of w) (filter (is_sent_to w disk) xs))
        (subst (λ (k : ℕ). numbered_below (k + 1) w.bios ≡ numbered_below from w.bios ++ y ∷ []) found.2
        (below_more from 0 w.next_bio y w.bios rising found.1))
        ∙ one_more w disk y c e (numbered_below from w.bios)

    not_there : (log : List Entry) (disk : ℕ) → is_sent_to w disk y ≡ false
        → head_below w log from disk ≡ head_below w log (b + 1) disk
    not_there log disk e =
        ap (λ (xs : List Waiting). record { head = head_of log disk; waiting = xs })
        (sym (then_waits disk false e ∙ append-nil (waiting_below w from disk)))

    -- the bio is put in
    pub walk_goes_on : (log : List Entry) (n : ℕ) (new : List DiskHead)
        → PutsAtSpot (spot_of w b) b (heads_below w log from n) new
        → new ≡ heads_below w log (b + 1) n
    walk_goes_on log n new puts = by (spot_in w.topology y) refl
      where
        spot_is : spot_of w b ≡ spot_in w.topology y
        spot_is = rw here refl

        by : (o : Option Spot) → spot_in w.topology y ≡ o → new ≡ heads_below w log (b + 1) n
        by None e =
            let did : new ≡ heads_below w log from n =
            subst (λ (o : Option Spot). PutsAtSpot o b (heads_below w log from n) new) (spot_is ∙ e) puts in
            did ∙ all_same (head_below w log from) (head_below w log (b + 1))
            (λ j. not_there log j (no_spot_says w y e j)) 0 n
        by (Some spot) e =
            let did : PutsAtSpot (Some spot) b (heads_below w log from n) new =
            subst (λ (o : Option Spot). PutsAtSpot o b (heads_below w log from n) new) (spot_is ∙ e) puts in
            let says = spot_says w y spot e in
            let one : waiting_of w y ≡ one_at b (place_of spot) =
            says.1 ∙ ap (λ (k : ℕ). one_at k (place_of spot)) found.2 in
            change_one (head_below w log from) (head_below w log (b + 1)) (Queues did.0 (one_at b (place_of spot)))
            spot.disk n (λ j other. not_there log j (says.0 j ∙ ne_eqb spot.disk j (λ same. other (sym same))))
            (λ z so. this spot (says.0 spot.disk ∙ eq-eqb spot.disk spot.disk refl) one z did.0 so) new did.1
          where
            this : (spot : Spot) → is_sent_to w spot.disk y ≡ true → waiting_of w y ≡ one_at b (place_of spot)
                → (z : DiskHead)
                (c : Bool) → Queues c (one_at b (place_of spot)) (head_below w log from spot.disk) z
                → z ≡ head_below w log (b + 1) spot.disk
            this spot sent one z true so =
                so.1 ∙ ap (λ (xs : List Waiting). record { head = head_of log spot.disk; waiting = xs })
                (ap (λ (x : Waiting). waiting_below w from spot.disk ++ x ∷ []) (sym one)
                ∙ sym (then_waits spot.disk true sent))
            this spot sent one z false so = search (rules, gathered_below w spot.disk from b w.bios not_before)

-- Forgotten from the first on

-- one more of which nothing is known
none_more : (low n : ℕ)
    → map no_head (range_with_len low n) ++ no_head 0 ∷ [] ≡ map no_head (range_with_len low (suc n))
none_more low zero = refl
none_more low (suc n) = ap (λ ds. no_head 0 ∷ ds) (none_more (low + 1) n)

pub none_one : (n : ℕ) → map no_head (range_with_len 0 n) ++ no_head 0 ∷ [] ≡ map no_head (range_with_len 0 (n + 1))
none_one n = search (rules, none_more 0 n)
