-- What comes home of a run: the view that it shows is the one that is looked at, and how its workers ended.
use Rattle.std.specs.Prelude.{◌≡◌, ◌≢◌, ℕ, IfSome, option_and_then, ◌<◌, List, [], ◌∷◌, length, All, Any, Option, Some, None, IsSome, slice_index_or, ◌+◌, ◌≤◌, ◌++◌}
use Rattle.std.specs.List.{AllZip, cons_option}
use Rattle.std.specs.Option.{option_map_or, option_to_list}
use Rattle.std.proofs.Common.{ap, arith, refl, subst, sym, true≢false, ◌∙◌, rules}
use Rattle.std.proofs.lemmas.List.{append-nil, get_or-map, length-map, length-append, map-append}
use Rattle.std.proofs.lemmas.Option.{none-some, same_Some}
use Rattle.std.proofs.lemmas.List.Elements.{All-push, All-weaker, Contains-append_left, Contains-append_right, filter_map-append}
use mathlib.Core.List.{IsPrefix}
use Rattle.geo_disk.specs.declared.drive.Drive.{Drive}
use Rattle.geo_model.specs.declared.step.Entry.{Entry}
use Rattle.geo_model.specs.Listing.{listing}
use Rattle.geo_model.specs.Log.{replay}
use Rattle.geo_serve.specs.Drives.{DriveView}
use Rattle.geo_lock.proofs.Prefixes.{prefix_trans}
use Rattle.geo_core.specs.declared.logged.MeshStart.{MeshStart}
use Rattle.geo_core.specs.Mesh.{MeshView}
use Rattle.geo_core.specs.Logged.{mesh_start}
use Rattle.geo_jobs.specs.Listings.{listing_after}
use Rattle.geo_jobs.specs.Passes.{MeshPass, opened_by}
use Rattle.geo_model.specs.declared.listing.GeomLine.{GeomLine}
use Rattle.geo_jobs.specs.Ends.{CanShow, PublisherView, WatcherView, begun_of, listing_at, listing_of_watcher}
use Rattle.geo_jobs.specs.Views.{AllBegin}
use Rattle.geo_jobs.specs.declared.lanes.Lanes.{Lanes}
use Rattle.geo_jobs.specs.declared.turn.Turn.{Turn}
use Rattle.geo_jobs.specs.declared.job.Role.{Role}
use Rattle.geo_jobs.specs.declared.run.Worker.{Worker}
use Rattle.geo_jobs.specs.Jobs.{IsRoleOf, publisher_of, drives_of}
use Rattle.geo_jobs.specs.Runs.{IsKept}
use Rattle.geo_jobs.specs.Workers.{WorkerRan}
use Rattle.geo_jobs.specs.declared.left.JobsEnd.{JobsEnd}
use Rattle.geo_jobs.specs.Closing.{EndsYard, IsEndOf, answers_of, lists_of, passes_of, worse}
use Rattle.geo_jobs.specs.Started.{MeshYard}
use Rattle.geo_jobs.specs.Viewed.{HasLooked, IsLastLook, LooksAt, LooksAtFirst, ShowsPrefixOf, begun_by, first_publisher, first_view, seen_by, shown_by}
use Rattle.geo_jobs.specs.declared.left.Seen.{Seen}
use Rattle.geo_jobs.specs.declared.left.Seen.TheVariants as seens
use Rattle.geo_laws_graph.proofs.Members.{Contains-here}
use Rattle.geo_jobs.specs.DriveList.{DriveListView}
use Rattle.geo_jobs.specs.Deal.{AreTwo, gathered_drives, gathered_of}
use Rattle.geo_jobs.specs.declared.turn.Turn.TheVariants as turns
use Rattle.geo_jobs.specs.declared.job.Role.TheVariants as roles
use Rattle.geo_jobs.specs.declared.left.JobsEnd.TheVariants as ends

-- The view

-- more workers behind the first change nothing of what it shows
pub begins_view : {D : Type 0} (w : Option WatcherView) (ws vs : List (Worker D)) → IsPrefix ws vs
    → LooksAtFirst w ws → LooksAtFirst w vs
begins_view None ws vs pre looks = tt
begins_view (Some v) [] vs pre looks = absurd (none-some v.view looks)
begins_view (Some v) (x ∷ xs) vs pre looks = subst (λ (l : List (Worker _)). first_view l ≡ Some v.view) pre.1 looks

-- a role that stays shows the same view
role_view : {D : Type 0} (seen : Drive D → DriveView) (added : List Entry) (a b : Role D) → IsKept seen added a b
    → shown_by (publisher_of b) ≡ shown_by (publisher_of a)
role_view seen added (roles.Client a) (roles.Client b) kept = kept.1
role_view seen added (roles.Events a) (roles.Events b) kept = refl
role_view seen added (roles.Down a) (roles.Down b) kept = refl
role_view seen added (roles.Up a) (roles.Up b) kept = refl
role_view seen added (roles.Disk a) (roles.Disk b) kept = refl
role_view seen added _ _ kept = absurd kept

-- so the first of workers that ran shows the same view as before
pub ran_view : {D : Type 0} (y : MeshYard) (lanes : Lanes) (seen : Drive D → DriveView) (ws vs : List (Worker D))
    → AllZip (WorkerRan y lanes seen) ws vs → first_view vs ≡ first_view ws
ran_view y lanes seen [] [] ran = refl
ran_view y lanes seen [] (v ∷ vs) ran = absurd ran
ran_view y lanes seen (w ∷ ws) [] ran = absurd ran
ran_view y lanes seen (w ∷ ws) (v ∷ vs) ran = role_view seen ran.0.ran.added w.job.role v.job.role ran.0.ran.kept

-- who looked at what the first shows still looks at what is taken away from the first
pub looks_meet : {D : Type 0} (before after : Option WatcherView) (p : Option PublisherView) (ws vs : List (Worker D))
    → LooksAtFirst before ws → seen_by after ≡ seen_by before → first_view vs ≡ first_view ws
    → p ≡ first_publisher vs → LooksAt after p
looks_meet before None p ws vs looks same kept taken = tt
looks_meet None (Some a) p ws vs looks same kept taken = absurd (none-some a.view (sym same))
looks_meet (Some b) (Some a) p ws vs looks same kept taken =
    ap (λ (o : Option PublisherView). shown_by o) taken ∙ (kept ∙ (looks ∙ sym same))

-- nobody looks where nobody looked
pub nobody_looks : (before after : Option WatcherView) → seen_by after ≡ seen_by before → before ≡ None → after ≡ None
nobody_looks before None same none = refl
nobody_looks before (Some a) same none = search rules

-- somebody looks where somebody looked
pub somebody_looks : (before after : Option WatcherView) → seen_by after ≡ seen_by before → IsSome before → IsSome after
somebody_looks before (Some a) same some = refl
somebody_looks None None same some = some
somebody_looks (Some b) None same some = absurd (none-some b.view same)

-- a last look is one if there is who looks
pub last_look_looked : (w : Option WatcherView) (p : Option PublisherView) (seen : Seen) → IsSome w
    → IsLastLook w p seen → HasLooked seen
last_look_looked None p seen some last = absurd (true≢false (sym some))
last_look_looked (Some w) p seens.Nothing some last = last
last_look_looked (Some w) p (seens.List list) some last = tt
last_look_looked (Some w) p seens.NoMemory some last = tt

-- what begins another list, and which that begins, is the list
none_shorter : {A : Type 0} (xs more rest : List A) → xs ≡ xs ++ more ++ rest → more ≡ []
none_shorter xs [] rest e = refl
none_shorter xs (a ∷ more) rest e =
    let long = ap (λ l. length l) e in
    absurd (omega (arith, long, length-append (xs ++ (a ∷ more)) rest, length-append xs (a ∷ more)))

both_begin : (xs ys : List Entry) → IsPrefix xs ys → IsPrefix ys xs → xs ≡ ys
both_begin xs ys p q =
    let none = none_shorter xs p.0 q.0 (sym (ap (λ (z : List Entry). z ++ q.0) p.1 ∙ q.1)) in
    sym (append-nil xs) ∙ (ap (λ (z : List Entry). xs ++ z) (sym none) ∙ p.1)

-- the watcher was told of what was shown last and then looked, and what it saw begins that
module _ (b : WatcherView) (p : PublisherView) (informed after : WatcherView) (stood saw : List Entry)
    (list : List GeomLine) where
  pub looked_once : informed.of ≡ b.of → informed.told ≡ stood ∷ b.told → stood ≡ p.stands → after.of ≡ informed.of
      → AllBegin informed.told after.seen → list ≡ listing_of_watcher after → saw ≡ after.seen → IsPrefix saw p.stands
      → list ≡ listing_at b.of p.stands
  looked_once of told stands of' begins listed saw_is within =
      let least : IsPrefix p.stands after.seen = subst (λ (l : List Entry). IsPrefix l after.seen) stands
      (subst (λ (l : List (List Entry)). AllBegin l after.seen) told begins 0 stood refl) in
      let most : IsPrefix after.seen p.stands = subst (λ (l : List Entry). IsPrefix l p.stands) saw_is within in
      listed
      ∙ (ap (λ (o : Option MeshPass). listing_at o after.seen) (of' ∙ of)
      ∙ ap (λ (l : List Entry). listing_at b.of l) (both_begin after.seen p.stands most least))

-- what a client shows its pass has seen
client_shows : {D : Type 0} (lanes : Lanes) (p : MeshPass) (r : Role D) (q : PublisherView) → IsRoleOf lanes p r
    → publisher_of r ≡ Some q → IsPrefix q.stands p.seen
client_shows lanes p (roles.Client j) q of is =
    (subst (λ (o : Option PublisherView). IfSome o (λ v. CanShow v p)) is of.shows).later
client_shows lanes p (roles.Events j) q of is = absurd (none-some q is)
client_shows lanes p (roles.Down j) q of is = absurd (none-some q is)
client_shows lanes p (roles.Up j) q of is = absurd (none-some q is)
client_shows lanes p (roles.Disk j) q of is = absurd (none-some q is)

-- so what the first of workers that ran shows begins the log in the end
pub shown_begins : {D : Type 0} (y : MeshYard) (lanes : Lanes) (seen : Drive D → DriveView) (ws vs : List (Worker D))
    (first : MeshPass) (m : MeshView) (p : Option PublisherView) → AllZip (WorkerRan y lanes seen) ws vs
    → EndsYard y (first ∷ passes_of vs) m → p ≡ first_publisher vs → IfSome p (λ q. IsPrefix q.stands m.log)
shown_begins y lanes seen ws vs first m None ran ended is = tt
shown_begins y lanes seen ws [] first m (Some q) ran ended is = absurd (none-some q (sym is))
shown_begins y lanes seen [] (v ∷ vs) first m (Some q) ran ended is = absurd ran
shown_begins y lanes seen (w ∷ ws) (v ∷ vs) first m (Some q) ran ended is =
    let seen_of = client_shows lanes v.job.pass v.job.role q ran.0.ready.job.role (sym is) in
    prefix_trans q.stands v.job.pass.seen m.log seen_of (ended.good 1 first (omega arith)).seen

-- the listing in a yard that began so
listing_begun : (of : Option MeshPass) (s : MeshStart) (log : List Entry)
    → option_and_then (λ (p : MeshPass). p.start) of ≡ Some s → listing_at of log ≡ listing (replay (opened_by s) log)
unfolding listing_after
listing_begun None s log e = absurd (none-some s e)
listing_begun (Some o) s log e =
    ap (λ (start : Option MeshStart). option_map_or (λ begun. listing (replay (opened_by begun) log)) start []) e

-- the last look is of a beginning of the log
pub shows_prefix : (y : MeshYard) (before after : Option WatcherView) (p : Option PublisherView) (seen : Seen)
    (m : MeshView) → mesh_start m ≡ y.start → IfSome before (λ w. begun_of w ≡ Some y.start)
    → begun_by after ≡ begun_by before → LooksAt after p → IfSome p (λ q. IsPrefix q.stands m.log)
    → IsLastLook after p seen → ShowsPrefixOf m seen
shows_prefix y before after p seens.Nothing m began begun same looks within last = tt
shows_prefix y before after p seens.NoMemory m began begun same looks within last = tt
shows_prefix y before None p (seens.List list) m began begun same looks within last =
    absurd (let wrong : ⊥ = cc in wrong)
shows_prefix y before (Some a) None (seens.List list) m began begun same looks within last =
    absurd (none-some a.view looks)
shows_prefix y None (Some a) (Some q) (seens.List list) m began begun same looks within last =
    absurd (none-some (begun_of a) (sym same))
shows_prefix y (Some b) (Some a) (Some q) (seens.List list) m began begun same looks within last = (
  q.stands,
  within,
  last ∙ listing_begun a.of (mesh_start m) q.stands (same_Some (begun_of a) (begun_of b) same ∙ (begun ∙ ap Some (sym began))),
)

-- Answers

module _ {D : Type 0} (ws vs : List (Worker D)) (same : answers_of vs ≡ answers_of ws) where
  -- as many workers
  pub as_many : length ws ≡ length vs
  as_many = search (rules, length-map ws (λ (w : Worker D). w.answer), length-map vs (λ (w : Worker D). w.answer))

  -- at each place the same answer
  answer_at : (k : ℕ) (d : Worker D) → k < length vs → (slice_index_or vs k d).answer ≡ (slice_index_or ws k d).answer
  answer_at k d lt =
      let many = as_many in
      sym (get_or-map (λ (w : Worker D). w.answer) vs k d d.answer lt)
      ∙ ap (λ (l : List Turn). slice_index_or l k d.answer) same
      ∙ get_or-map (λ (w : Worker D). w.answer) ws k d d.answer (omega (arith, many, lt))

  -- what holds of each answer, or of some
  all_alike : (P : Turn → Type 0) → All (λ (w : Worker D). P w.answer) vs → All (λ (w : Worker D). P w.answer) ws
  all_alike P each k d lt = search (rules, as_many, answer_at k d)

  any_alike : (P : Turn → Type 0) → Any (λ (w : Worker D). P w.answer) vs → Any (λ (w : Worker D). P w.answer) ws
  any_alike P some = search (rules, as_many, answer_at)

  -- the same end
  pub ends_alike : (e : JobsEnd) → IsEndOf vs e → IsEndOf ws e
  ends_alike ends.Idle ended = all_alike (λ (t : Turn). (t ≢ turns.NoMemory) × (t ≢ turns.LogFull)) ended
  ends_alike ends.LogFull ended = (
    all_alike (λ (t : Turn). t ≢ turns.NoMemory) ended.0,
    any_alike (λ (t : Turn). t ≡ turns.LogFull) ended.1,
  )
  ends_alike ends.NoMemory ended = any_alike (λ (t : Turn). t ≡ turns.NoMemory) ended

-- Workers that come home.

module _ {X : Type 0} (P : X → Type 0) (xs : List X) (x : X) where
  -- some element of more
  any_front : Any P xs → Any P (xs ++ x ∷ [])
  any_front some = search (rules, Contains-append_left xs (x ∷ []) some.1 (some.0, some.2, some.3))

  any_last : P x → Any P (xs ++ x ∷ [])
  any_last its = search (rules, Contains-append_right xs (x ∷ []) x (Contains-here x []))

-- what is known of a worker by its answer
module _ {D : Type 0} where
  abbrev Lacks : Worker D → Type 0
  Lacks x = x.answer ≡ turns.NoMemory

  abbrev IsFull : Worker D → Type 0
  IsFull x = x.answer ≡ turns.LogFull

  abbrev HasMemory : Worker D → Type 0
  HasMemory x = x.answer ≢ turns.NoMemory

  abbrev IsCalm : Worker D → Type 0
  IsCalm x = (x.answer ≢ turns.NoMemory) × (x.answer ≢ turns.LogFull)

module _ {D : Type 0} (ws : List (Worker D)) (w : Worker D) where
  full_memory : w.answer ≡ turns.LogFull → HasMemory w
  full_memory is same = let bad : turns.LogFull ≡ turns.NoMemory = sym is ∙ same in (let wrong : ⊥ = cc in wrong)

  -- where the last is calm nothing is worse
  calm : (f : JobsEnd) → IsCalm w → IsEndOf ws f → IsEndOf (ws ++ w ∷ []) f
  calm ends.Idle its of = All-push IsCalm ws w of its
  calm ends.LogFull its of = (All-push HasMemory ws w of.0 its.0, any_front IsFull ws w of.1)
  calm ends.NoMemory its of = any_front Lacks ws w of

  by_answer : (f : JobsEnd) (a : Turn) → w.answer ≡ a → IsEndOf ws f → IsEndOf (ws ++ w ∷ []) (worse f a)
  by_answer f turns.NoMemory is of = any_last Lacks ws w is
  by_answer ends.NoMemory turns.LogFull is of = any_front Lacks ws w of
  by_answer ends.LogFull turns.LogFull is of = (All-push HasMemory ws w of.0 (full_memory is), any_last IsFull ws w is)
  by_answer ends.Idle turns.LogFull is of = (
    All-push HasMemory ws w (All-weaker IsCalm HasMemory (λ x its. its.0) ws of) (full_memory is),
    any_last IsFull ws w is,
  )
  by_answer ends.NoMemory a is of = any_front Lacks ws w of
  by_answer f a is of =
      calm f (
        (λ same. let bad : a ≡ turns.NoMemory = sym is ∙ same in (let wrong : ⊥ = cc in wrong)),
        (λ same. let bad : a ≡ turns.LogFull = sym is ∙ same in (let wrong : ⊥ = cc in wrong)),
      ) of

  -- how jobs and one more ended
  pub ends_push : (e : JobsEnd) → IsEndOf ws e → IsEndOf (ws ++ w ∷ []) (worse e w.answer)
  ends_push e ended = by_answer e w.answer refl ended

-- an option in front of nothing
one_option : {X : Type 0} (o : Option X) → cons_option o [] ≡ option_to_list o
one_option None = refl
one_option (Some x) = refl

module _ {D : Type 0} (ws : List (Worker D)) (w : Worker D) where
  -- one worker more
  pub passes_push : passes_of (ws ++ w ∷ []) ≡ passes_of ws ++ w.job.pass ∷ []
  passes_push = map-append (λ (x : Worker D). x.job.pass) ws (w ∷ [])

  pub lists_push : lists_of (ws ++ w ∷ []) ≡ lists_of ws ++ option_to_list (drives_of w.job.role)
  lists_push = search (rules, filter_map-append (λ (x : Worker D). drives_of x.job.role) ws (w ∷ []))

-- the first of two lists and the second
pub record Pair {D : Type 0} (count : ℕ) (lists : List (DriveListView D)) : Type 0 where
  pub even : DriveListView D
  pub odd : DriveListView D
  pub both : lists ≡ even ∷ [] ++ odd ∷ []
  pub fewer : length odd.items ≤ length even.items
  pub fits : length even.items + length odd.items ≤ count

pub pair_of : {D : Type 0} (count : ℕ) (lists : List (DriveListView D)) → AreTwo count lists → Pair count lists
pair_of count [] two = absurd two
pair_of count (even ∷ []) two = absurd two
pair_of count (even ∷ odd ∷ []) two = record { even = even; odd = odd; both = refl; fewer = two.0; fits = two.1 }
pair_of count (even ∷ odd ∷ x ∷ rest) two = absurd two

-- two that stand behind a list are its last two
pub last_two : {X : Type 0} (xs ys : List X) (a b c d : X) → a ∷ b ∷ [] ≡ xs → xs ≡ ys ++ c ∷ [] ++ d ∷ []
    → (a ≡ c) × (b ≡ d)
last_two xs [] a b c d is split = search rules
last_two xs (y ∷ ys) a b c d is split =
    search (rules, length-append (y ∷ ys ++ c ∷ []) (d ∷ []), length-append (y ∷ ys) (c ∷ []))

pub two_are : {D : Type 0} (count : ℕ) (lists front : List (DriveListView D)) (even odd : DriveListView D)
    → AreTwo count lists → lists ≡ front ++ even ∷ [] ++ odd ∷ []
    → (length odd.items ≤ length even.items) × (length even.items + length odd.items ≤ count)
    × (gathered_of lists ≡ gathered_drives even.items odd.items)
two_are count lists front even odd two split =
    let p = pair_of count lists two in
    search (rules, last_two lists front p.even p.odd even odd (sym p.both) split)

-- so it is where the two were taken from the end
module _ {D : Type 0} (count : ℕ) (lists front : List (DriveListView D)) {mid : List (DriveListView D)}
    {o p : Option (DriveListView D)} {even odd : DriveListView D} (two : AreTwo count lists)
    (last : lists ≡ mid ++ option_to_list o) (next : mid ≡ front ++ option_to_list p) (is_even : p ≡ Some even)
    (is_odd : o ≡ Some odd) where
  pub two_taken : (length odd.items ≤ length even.items) × (length even.items + length odd.items ≤ count)
      × (gathered_of lists ≡ gathered_drives even.items odd.items)
  two_taken =
      two_are count lists front even odd two
      (last
      ∙ ap (λ (l : List (DriveListView D)). l ++ option_to_list o)
      (next ∙ ap (λ (q : Option (DriveListView D)). front ++ option_to_list q) is_even)
      ∙ ap (λ (q : Option (DriveListView D)). front ++ even ∷ [] ++ option_to_list q) is_odd)

-- what was put into an empty list, and then the rest behind it
module _ {A : Type 0} (first : A) (rest : List A) {empty one all : List A} (none : empty ≡ [])
    (put : one ≡ empty ++ first ∷ []) (more : all ≡ one ++ rest) where
  pub first_of_all : all ≡ first ∷ rest
  first_of_all = more ∙ ap (λ (l : List A). l ++ rest) (put ∙ ap (λ (l : List A). l ++ first ∷ []) none)
