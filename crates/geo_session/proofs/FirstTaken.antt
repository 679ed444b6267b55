-- The first bio that can be taken, by a walk over the bios in order of numbers.
use Rattle.std.specs.Prelude.{◌≡◌, ℕ, ◌+◌, ◌<◌, ◌≤◌, nat_le, Bool, true, false, ◌&&◌, List, [], ◌∷◌, map, find, Option, Some, None, is_none, is_some, IfSome, if◌then◌else◌, option_and_then}
use Rattle.std.specs.Option.{option_map, option_map_or}
use Rattle.std.proofs.Common.{refl, sym, ◌∙◌, ap, subst, arith}
use Rattle.std.proofs.lemmas.Bool.{eq-eqb, le-leb, leb-false, leb-true, lt-leb}
use Rattle.geo_base.proofs.Options.{none-mapped}
use Rattle.std.proofs.lemmas.List.Elements.{All-contains}
use Rattle.geo_base.proofs.FindLists.{found_passes}
use Rattle.geo_base.proofs.MemberLists.{Contains-map}
use Rattle.geo_model.specs.declared.command.LineCommand.{LineCommand}
use Rattle.geo_model.specs.declared.step.Entry.{Entry}
use Rattle.geo_model.specs.declared.step.Found.{Found}
use Rattle.geo_model.specs.declared.step.Step.{Step}
use Rattle.geo_model.specs.declared.step.Step.TheVariants as steps
use Rattle.geo_model.specs.World.{World, Bio, BioOf, bio_at, bio_among, is_sent}
use Rattle.geo_model.specs.Bios.{busy_bio, disk_of_bio, disk_at}
use Rattle.geo_model.specs.Graph.{AreNumbers}
use Rattle.geo_model.specs.Order.{first_bio, is_to_take, take_step}
use Rattle.geo_model.specs.Step.{take_of}
use Rattle.geo_laws_graph.proofs.Lists.{Rise, rise-from, found_itself}
use Rattle.geo_laws_graph.proofs.Members.{find-Contains}
use Rattle.geo_bio.specs.declared.bio.Held.{Held}
use Rattle.geo_bio.specs.BioTable.{AreInOrder, bio_from}
use Rattle.geo_log.specs.Places.{delivered_at}
use Rattle.geo_state.specs.declared.state.State.{State}
use Rattle.geo_state.specs.Shown.{shown_bio, shown_bios}
use Rattle.geo_state.specs.Steps.{against}
use Rattle.geo_state.specs.World.{world}
use Rattle.geo_moves.proofs.Told as told

-- Whether a bio can be taken at its disk

module _ (w : World) (seat : ℕ) (x : Bio) where
  at_disk : (d : ℕ) (o : Option Bio) (sent : Bool) → busy_bio w d ≡ o → is_sent x.phase ≡ sent
      → disk_of_bio w x ≡ Some d
      → is_none (against (take_of w seat d (Some x))) ≡ is_to_take w x
  at_disk d o false busy sent at = rw (sent) refl
  at_disk d None true busy sent at = rw (sent, at, eq-eqb d d refl, busy) refl
  at_disk d (Some y) true busy sent at = rw (sent, at, eq-eqb d d refl, busy) refl

  no_disk : (sent : Bool) → is_sent x.phase ≡ sent → disk_of_bio w x ≡ None → is_to_take w x ≡ false
  no_disk false sent at = rw sent refl
  no_disk true sent at = rw (sent, at) refl

-- what is free for it, by what was found

abbrev pub free : World → Bio → Option ℕ
free w x = if is_to_take w x then disk_of_bio w x else None

-- what isn't free can't be taken
not_free : (w : World) (x : Bio) → None ≡ free w x → is_to_take w x ≡ false
not_free w x none = by (disk_of_bio w x) refl (is_to_take w x) refl where
  by : (o : Option ℕ) → disk_of_bio w x ≡ o → (b : Bool) → is_to_take w x ≡ b → b ≡ false
  by None at b is = sym is ∙ no_disk w 0 x (is_sent x.phase) refl at
  by (Some d) at true is = absurd (let e : None ≡ Some d = none ∙ rw (is, at) refl in let no : ⊥ = cc in no)
  by (Some d) at false is = refl

-- what is free can
is_free : (w : World) (x : Bio) (disk : ℕ) → Some disk ≡ free w x
    → (is_to_take w x ≡ true) × (disk_of_bio w x ≡ Some disk)
is_free w x disk some = by (is_to_take w x) refl where
  by : (b : Bool) → is_to_take w x ≡ b → (is_to_take w x ≡ true) × (disk_of_bio w x ≡ Some disk)
  by true is = (is, sym (let e : Some disk ≡ disk_of_bio w x = rw is at some in e))
  by false is = absurd (let e : Some disk ≡ None = rw is at some in let no : ⊥ = cc in no)

module _ (s : State) (actors : List (List LineCommand)) (entries : List Entry) (bio : ℕ) where
  abbrev w : World
  w = world actors entries s

  abbrev log : ℕ → Option (List ℕ)
  log = delivered_at entries

  -- the bio of the table and that of the world
  by_bio : (o : Option (BioOf Held)) → bio_among s.traffic.bios bio ≡ o → (d : Option ℕ)
      → d ≡ option_and_then (λ (y : BioOf Held). disk_at s.topo.topology y.target) o
      → (result : Option ℕ) → ((x : Bio) → bio_at w bio ≡ Some x → d ≡ disk_of_bio w x → result ≡ free w x)
      → IfSome (bio_at w bio) (λ x. result ≡ free w x)
  by_bio None at d is result free_is = rw (told.at_number actors entries s refl bio None (sym at)) tt
  by_bio (Some y) at d is result free_is =
      let here : bio_at w bio ≡ Some (shown_bio log y) = told.at_number actors entries s refl bio (Some y) (sym at) in
      rw here (free_is (shown_bio log y) here is)

  module _ (d : Option ℕ)
      (is : d ≡ option_and_then (λ (y : BioOf Held). disk_at s.topo.topology y.target)
      (bio_among s.traffic.bios bio)) where
    -- it has no disk
    pub none_free : d ≡ None → IfSome (bio_at w bio) (λ x. None ≡ free w x)
    none_free none =
        by_bio (bio_among s.traffic.bios bio) refl d is None
        (λ x here same. sym (ap (λ b. if b then disk_of_bio w x else None)
        (no_disk w 0 x (is_sent x.phase) refl (sym same ∙ none))))

    -- by what is against the Take there
    pub found_free : (disk : ℕ) (f : Option Found) → d ≡ Some disk
        → against (take_of w 0 disk (bio_at w bio)) ≡ f
        → IfSome (bio_at w bio) (λ x. (if is_some f then None else Some disk) ≡ free w x)
    found_free disk f some found =
        by_bio (bio_among s.traffic.bios bio) refl d is (if is_some f then None else Some disk) by
      where
        by : (x : Bio) → bio_at w bio ≡ Some x → d ≡ disk_of_bio w x
            → (if is_some f then None else Some disk) ≡ free w x
        by x here same =
            let at : disk_of_bio w x ≡ Some disk = sym same ∙ some in
            let told_by : is_none f ≡ is_to_take w x =
            ap is_none (sym found) ∙ ap (λ o. is_none (against (take_of w 0 disk o))) here
            ∙ at_disk w 0 x disk (busy_bio w disk) (is_sent x.phase) refl refl at in
            choose f ∙ ap (λ b. if b then Some disk else None) told_by
            ∙ ap (λ o. if is_to_take w x then o else None) (sym at)
          where
            choose : (g : Option Found)
                → (if is_some g then None else Some disk) ≡ (if is_none g then Some disk else None)
            choose None = refl
            choose (Some y) = refl

-- bios whose numbers rise
abbrev Rising : ℕ → List Bio → ℕ → Type 0
Rising low xs high = Rise low (map (λ (x : Bio). x.number) xs) high

-- What passes, from a number on

module _ (test : Bio → Bool) where
  abbrev pub test_from : ℕ → Bio → Bool
  test_from from x = nat_le from x.number && test x

  -- where the number is below all of them, it is what passes
  all_from : (from low high : ℕ) (xs : List Bio) → Rising low xs high → from ≤ low
      → find (test_from from) xs ≡ find test xs
  all_from from low high [] rise less = refl
  all_from from low high (x ∷ xs) rise less =
      rw (
        le-leb from x.number (omega (arith, rise.0, less)),
        all_from from (x.number + 1) high xs rise.2 (omega (arith, rise.0, less)),
      ) refl

  -- where the first from there on doesn't pass, it is what passes from the next number on
  pub skip : (from low high n : ℕ) (xs : List Bio) (y : Bio) → Rising low xs high
      → find (λ x. nat_le from x.number) xs ≡ Some y → y.number ≡ n → test y ≡ false
      → find (test_from from) xs ≡ find (test_from (n + 1)) xs
  skip from low high n [] y rise first is fails = absurd (let no : ⊥ = cc in no)
  skip from low high n (x ∷ xs) y rise first is fails =
      by (nat_le from x.number) refl (λ later. skip from (x.number + 1) high n xs y rise.2 later is fails)
    where
      by : (b : Bool) → nat_le from x.number ≡ b
          → (find (λ (z : Bio). nat_le from z.number) xs ≡ Some y
          → find (test_from from) xs ≡ find (test_from (n + 1)) xs)
          → find (test_from from) (x ∷ xs) ≡ find (test_from (n + 1)) (x ∷ xs)
      by true e on =
          let same : x ≡ y = (let f : Some x ≡ Some y = rw e at first in cc) in
          let number : x.number ≡ n = ap (λ (z : Bio). z.number) same ∙ is in
          let fails_here : test x ≡ false = ap test same ∙ fails in
          let least : from ≤ x.number = leb-true from x.number e in
          rw (e, fails_here, lt-leb (n + 1) x.number (omega (arith, number)))
          (all_from from (x.number + 1) high xs rise.2 (omega (arith, least))
          ∙ sym (all_from (n + 1) (x.number + 1) high xs rise.2 (omega (arith, number))))
      by false e on =
          let later : find (λ (z : Bio). nat_le from z.number) xs ≡ Some y = rw e at first in
          let less : x.number < from = leb-false from x.number e in
          let least : from ≤ y.number =
          leb-true from y.number (found_passes (λ (z : Bio). nat_le from z.number) xs y later) in
          rw (e, lt-leb (n + 1) x.number (omega (arith, less, least, is))) (on later)

  -- where it passes, it is the first that does
  pub hit : (from : ℕ) (xs : List Bio) (y : Bio) → find (λ (x : Bio). nat_le from x.number) xs ≡ Some y
      → test y ≡ true → find (test_from from) xs ≡ Some y
  hit from [] y first passes = absurd (let no : ⊥ = cc in no)
  hit from (x ∷ xs) y first passes = by (nat_le from x.number) refl (λ later. hit from xs y later passes)
    where
      by : (b : Bool) → nat_le from x.number ≡ b
          → (find (λ (z : Bio). nat_le from z.number) xs ≡ Some y → find (test_from from) xs ≡ Some y)
          → find (test_from from) (x ∷ xs) ≡ Some y
      by true e on =
          let same : x ≡ y = (let f : Some x ≡ Some y = rw e at first in cc) in
          let passes_here : test x ≡ true = ap test same ∙ passes in
          rw (e, passes_here) (ap (λ (z : Bio). let o : Option Bio = Some z in o) same)
      by false e on = rw e (on (rw e at first))

  -- where there is none, none passes
  pub missed : (from : ℕ) (xs : List Bio) → find (λ (x : Bio). nat_le from x.number) xs ≡ None
      → find (test_from from) xs ≡ None
  missed from [] none = refl
  missed from (x ∷ xs) none = by (nat_le from x.number) refl (λ later. missed from xs later)
    where
      by : (b : Bool) → nat_le from x.number ≡ b
          → (find (λ (z : Bio). nat_le from z.number) xs ≡ None → find (test_from from) xs ≡ None)
          → find (test_from from) (x ∷ xs) ≡ None
      by true e on = absurd (let f : Some x ≡ None = rw e at none in let no : ⊥ = cc in no)
      by false e on = rw e (on (rw e at none))

-- The walk over the bios of a state

-- what is shown of bios has their numbers
same_numbers : (log : ℕ → Option (List ℕ)) (xs : List (BioOf Held))
    → map (λ (x : BioOf Held). x.number) xs ≡ map (λ (x : Bio). x.number) (shown_bios log xs)
same_numbers log [] = refl
same_numbers log (x ∷ xs) = ap (λ (ns : List ℕ). x.number ∷ ns) (same_numbers log xs)

-- of those before the place none can be taken, in each world for which the state stands
abbrev pub NoneBefore : State → ℕ → Type 0
NoneBefore s from =
    (actors : List (List LineCommand)) (entries : List Entry)
    → find (is_to_take (world actors entries s)) (world actors entries s).bios
    ≡ find (test_from (is_to_take (world actors entries s)) from) (world actors entries s).bios

abbrev FirstIs : State → Option Step → Type 0
FirstIs s o =
    (actors : List (List LineCommand)) (entries : List Entry)
    → o ≡ first_bio (world actors entries s) (is_to_take (world actors entries s)) (take_step (world actors entries s))

module _ (s : State) (order : AreInOrder s.traffic) (actors : List (List LineCommand)) (entries : List Entry) where
  abbrev v : World
  v = world actors entries s

  -- the numbers of the world's bios rise
  rising : Rising 0 v.bios s.traffic.next
  rising =
      rise-from s.traffic.next (map (λ (x : Bio). x.number) v.bios)
      (subst (λ ns. AreNumbers ns s.traffic.next) (same_numbers (delivered_at entries) s.traffic.bios) order.numbers)

  pub begins_in : find (is_to_take v) v.bios ≡ find (test_from (is_to_take v) 0) v.bios
  begins_in = sym (all_from (is_to_take v) 0 0 s.traffic.next v.bios rising (omega arith))

  -- the next bio, in the world
  pub record Next (from bio : ℕ) : Type 0 where
    pub x : Bio
    pub first : find (λ (y : Bio). nat_le from y.number) v.bios ≡ Some x
    pub number : x.number ≡ bio
    pub at : bio_at v bio ≡ Some x

  next_by : (from bio : ℕ) (o : Option Bio) → find (λ (y : Bio). nat_le from y.number) v.bios ≡ o
      → option_map (λ (y : Bio). y.number) o ≡ Some bio → Next from bio
  next_by from bio None first is = absurd (let no : ⊥ = cc in no)
  next_by from bio (Some x) first is =
      let number : x.number ≡ bio = cc in
      let here = find-Contains (λ (y : Bio). nat_le from y.number) v.bios x first in
      let itself : bio_at v x.number ≡ Some x =
      found_itself (λ (y : Bio). y.number) s.traffic.next v.bios x
      (subst (λ ns. AreNumbers ns s.traffic.next) (same_numbers (delivered_at entries) s.traffic.bios) order.numbers)
      here in
      record { x = x; first = first; number = number; at = subst (λ n. bio_at v n ≡ Some x) number itself }

  pub next_is : (from bio : ℕ) → Some bio ≡ bio_from s.traffic.bios from → Next from bio
  next_is from bio is =
      next_by from bio (find (λ (y : Bio). nat_le from y.number) v.bios) refl
      (sym (is ∙ told.next_shown actors entries s refl from))

-- none is before the first
pub begins : (s : State) → AreInOrder s.traffic → NoneBefore s 0
begins s order actors entries = begins_in s order actors entries

module _ (s : State) (order : AreInOrder s.traffic) (from bio : ℕ) (is : Some bio ≡ bio_from s.traffic.bios from) where
  -- its number was given out
  pub was_given : bio < s.traffic.next
  was_given = by (find (λ (y : BioOf Held). nat_le from y.number) s.traffic.bios) refl (sym is)
    where
      by : (o : Option (BioOf Held)) → find (λ (y : BioOf Held). nat_le from y.number) s.traffic.bios ≡ o
          → option_map (λ (y : BioOf Held). y.number) o ≡ Some bio → bio < s.traffic.next
      by None first e = absurd (let no : ⊥ = cc in no)
      by (Some y) first e =
          let number : y.number ≡ bio = cc in
          let here = find-Contains (λ (z : BioOf Held). nat_le from z.number) s.traffic.bios y first in
          let less : y.number < s.traffic.next =
          All-contains (λ n. n < s.traffic.next) (map (λ (z : BioOf Held). z.number) s.traffic.bios) y.number
          order.numbers.1 (Contains-map (λ (z : BioOf Held). z.number) s.traffic.bios y here) in
          omega (arith, less, number)

  -- and isn't before the place
  pub not_before : from ≤ bio
  not_before = by (find (λ (y : BioOf Held). nat_le from y.number) s.traffic.bios) refl (sym is)
    where
      by : (o : Option (BioOf Held)) → find (λ (y : BioOf Held). nat_le from y.number) s.traffic.bios ≡ o
          → option_map (λ (y : BioOf Held). y.number) o ≡ Some bio → from ≤ bio
      by None first e = absurd (let no : ⊥ = cc in no)
      by (Some y) first e =
          let number : y.number ≡ bio = cc in
          let least : from ≤ y.number =
          leb-true from y.number (found_passes (λ (z : BioOf Held). nat_le from z.number) s.traffic.bios y first) in
          omega (arith, least, number)

  -- where it isn't free, none is before the number after it
  pub goes_on : NoneBefore s from
      → ((actors : List (List LineCommand)) (entries : List Entry)
      → IfSome (bio_at (world actors entries s) bio) (λ x. None ≡ free (world actors entries s) x))
      → NoneBefore s (bio + 1)
  goes_on before held actors entries =
      let w : World = world actors entries s in
      let next : Next s order actors entries from bio = next_is s order actors entries from bio is in
      let fails : is_to_take w next.x ≡ false =
      not_free w next.x (let h : IfSome (bio_at w bio) (λ x. None ≡ free w x) = held actors entries in
      rw next.at at h) in
      before actors entries
      ∙ skip (is_to_take w) from 0 s.traffic.next bio w.bios next.x (rising s order actors entries) next.first
      next.number fails

  -- where it is free for a disk, it is the first
  pub taken : (disk : ℕ) → NoneBefore s from
      → ((actors : List (List LineCommand)) (entries : List Entry)
      → IfSome (bio_at (world actors entries s) bio) (λ x. Some disk ≡ free (world actors entries s) x))
      → FirstIs s (Some (steps.Take disk bio))
  taken disk before held actors entries =
      let w : World = world actors entries s in
      let next : Next s order actors entries from bio = next_is s order actors entries from bio is in
      let gets = (let h : IfSome (bio_at w bio) (λ x. Some disk ≡ free w x) = held actors entries in
      is_free w next.x disk (rw next.at at h)) in
      let first = before actors entries ∙ hit (is_to_take w) from w.bios next.x next.first gets.0 in
      let step_of : ℕ → ℕ → Option Step = λ d n. Some (steps.Take d n) in
      sym (ap (option_map (take_step w)) first
      ∙ ap (λ o. step_of (option_map_or (λ d. d) o 0) next.x.number) gets.1 ∙ ap (step_of disk) next.number)

-- where there is no next one there is none
pub ends : (s : State) (from : ℕ) → NoneBefore s from → None ≡ bio_from s.traffic.bios from → FirstIs s None
ends s from before none actors entries =
    let w : World = world actors entries s in
    let no_next : find (λ (y : Bio). nat_le from y.number) w.bios ≡ None =
    none-mapped (λ (y : Bio). y.number) (find (λ (y : Bio). nat_le from y.number) w.bios)
    (sym (none ∙ told.next_shown actors entries s refl from)) in
    sym (ap (option_map (take_step w))
    (before actors entries ∙ missed (is_to_take w) from w.bios no_next))
