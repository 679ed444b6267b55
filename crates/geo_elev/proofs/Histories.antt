-- How the heads of disks, and what waits for them, follow the log of a mesh.
use Rattle.std.specs.Prelude.{◌≡◌, ℕ, suc, ◌+◌, ◌==◌, Bool, true, false, List, [], ◌∷◌, ◌++◌, Result, Ok, Err, Some, IfOk, IsOkAnd, IsTrue, drop, length, slice_get, take, filter, map, zip, OnErr}
use Rattle.std.specs.List.{AllByRecursion, AllZip, range_with_len}
use Rattle.std.proofs.Common.{refl, sym, ◌∙◌, ap, subst, arith, rules}
use Rattle.std.proofs.lemmas.List.{drop_all, length-map}
use Rattle.std.proofs.lemmas.List.FromFn.{length-map-range_with_len}
use Rattle.std.proofs.Math.Seq.{take-append_seam}
use Rattle.std.proofs.lemmas.Slice.Zip.{AllZip-long, length-zip}
use Rattle.geo_base.proofs.PlaceLists.{parted, take_one}
use Rattle.geo_model.specs.declared.step.Entry.{Entry}
use Rattle.geo_model.specs.declared.step.Outcome.{Outcome}
use Rattle.geo_model.specs.declared.step.Request.{Request}
use Rattle.geo_model.specs.World.{World, Bio, HeaderDisk}
use Rattle.geo_model.specs.Step.{Answer, step}
use Rattle.geo_model.specs.Log.{IsPrefixOf, Legal, after_entry, world_after, replay}
use Rattle.geo_model.specs.Fitting.{Firm}
use Rattle.geo_model.proofs.LogLemmas.{replay-append, Legal-back}
use Rattle.geo_headline.specs.Sweep.{waiting_for, head_of, head_after, Waiting, is_sent_to, waiting_of}
use Rattle.geo_laws_sweep.specs.SweepLaws.{is_queued, is_asked}
use Rattle.geo_drain.specs.Meshes.{MeshView, IsHistory, opened, world_of, spot_of}
use Rattle.geo_drain.proofs.HandedOn.{firm_after, opening_disks, opening_none}
use Rattle.geo_elev.specs.declared.disks.DiskHead.{DiskHead}
use Rattle.geo_elev.specs.Lists.{one_at}
use Rattle.geo_elev.specs.Heads.{AreHeads, HeadsView, disk_head, disk_heads, no_head, no_heads}
use Rattle.geo_elev.specs.Following.{ComesAfter, Followed, Starts, TakesIfFollowed, heads_at, is_quiet, place_of}
use Rattle.geo_elev.proofs.Following.{all_stay, asked_then, queued_then}
use Rattle.geo_elev.proofs.Gathered.{spot_waits}
use Rattle.geo_model.specs.declared.command.DiskDecl.{DiskDecl}
use Rattle.geo_model.specs.Opening.{disk_in_size}
use Rattle.geo_model.specs.Plans.{IsFact}
use Rattle.geo_model.specs.declared.step.Outcome.TheVariants as outcomes

-- an answer that is made as the entry says
made_so : (w : World) (o : Outcome) (a : Answer) → IsOkAnd a (λ made. made.1 ≡ o) → a ≡ Ok (world_after w a, o)
made_so w o (Ok made) is = ap (λ (x : Outcome). Ok (made.0, x)) is
made_so w o (Err found) is = absurd is

module _ (m : MeshView) (history : IsHistory m) (seen : List Entry) (e : Entry) (is_last : Bool)
    (comes : ComesAfter m.log seen e is_last) (n : ℕ) where
  -- the world before the entry
  abbrev w : World
  w = replay (opened m) seen

  firm : Firm w
  firm = firm_after m.plan m.facts history.plan.begins history.facts seen

  made : step w e.seat e.step ≡ Ok (after_entry w e, e.outcome)
  made =
      made_so w e.outcome (step w e.seat e.step)
      (Legal-back (opened m) seen (e ∷ comes.later)
      (subst (λ (log : List Entry). Legal (opened m) log) comes.split history.lawful.0)).0

  -- the heads after it
  then_at : disk_heads (after_entry w e) (seen ++ e ∷ []) n ≡ heads_at (opened m) (seen ++ e ∷ []) n
  then_at = ap (λ (v : World). disk_heads v (seen ++ e ∷ []) n) (sym (replay-append (opened m) seen (e ∷ [])))

  -- an outcome that neither asks nor queues
  pub quiet_then : is_quiet e.outcome ≡ true → heads_at (opened m) seen n ≡ heads_at (opened m) (seen ++ e ∷ []) n
  quiet_then quiet = by e.outcome refl quiet
    where
      stay : (o : Outcome) → e.outcome ≡ o
          → ((disk : ℕ) → (is_queued disk o ≡ false) × (is_asked disk o ≡ false)
          × (head_after disk (head_of seen disk) o ≡ head_of seen disk))
          → heads_at (opened m) seen n ≡ heads_at (opened m) (seen ++ e ∷ []) n
      stay o is still = all_stay w firm seen e made n o is still ∙ then_at

      by : (o : Outcome) → e.outcome ≡ o → is_quiet o ≡ true
          → heads_at (opened m) seen n ≡ heads_at (opened m) (seen ++ e ∷ []) n
      by (outcomes.Asked q) is wrong = absurd (let bad : ⊥ = cc in bad)
      by (outcomes.Queued d) is wrong = absurd (let bad : ⊥ = cc in bad)
      by o is yes_quiet = stay o is (λ d. (refl, refl, refl))

  -- a request that a disk was asked for
  pub take_then : (b : Bool) (q : Request) (new : List DiskHead) → e.outcome ≡ outcomes.Asked q
      → TakesIfFollowed b q e.step (heads_at (opened m) seen n) new
      → Followed b (opened m) seen e n new
  take_then true q new is (d, b, take, does) = asked_then w firm seen e made n q d b is take new does ∙ then_at
  take_then false q new is does = tt

  -- a bio that came to a disk
  pub start_then : (b : Bool) (d : ℕ) (new : List DiskHead) → e.outcome ≡ outcomes.Queued d → IsTrue is_last
      → Starts b (world_of m) d e.step (heads_at (opened m) seen n) new
      → Followed b (opened m) seen e n new
  start_then false d new is last does = tt
  start_then true d new is last (b, spot, start, spots, at_disk, does) =
      queued_then w firm seen e made n d b (one_at b (place_of spot)) is start refl
      (λ P all. spot_waits (after_entry w e) b spot
      (subst (λ (v : World). spot_of v b ≡ Some spot) world_is spots) P
      (subst (λ (k : ℕ). AllByRecursion P (waiting_for (after_entry w e) k)) (sym at_disk) all))
      new does ∙ then_at
    where
      world_is : world_of m ≡ after_entry w e
      world_is = search (rules, replay-append (opened m) seen (e ∷ []))

-- where a result tells of the heads as they stood, and from that the entry was followed, it was
pub if_followed : {E : Type 0} (m : MeshView) (e : Entry) (is_last : Bool) (old new : List DiskHead)
    (r : Result Bool E) (Says : List DiskHead → Bool → Type 0)
    → ((seen : List Entry) (n : ℕ) (b : Bool) → ComesAfter m.log seen e is_last → Says (heads_at (opened m) seen n) b
    → Followed b (opened m) seen e n new)
    → IfOk r (λ b. Says old b)
    → IfOk r (λ b. (seen : List Entry) (n : ℕ) → ComesAfter m.log seen e is_last → old ≡ heads_at (opened m) seen n
    → Followed b (opened m) seen e n new)
if_followed m e is_last old new (Ok b) Says follows says = search rules
if_followed m e is_last old new (Err none) Says follows says = tt

-- From an entry on

-- where it was followed, so is one entry more
pub follows_on : (m : MeshView) (at n : ℕ) (e : Entry) (is_last : Bool) → slice_get m.log at ≡ Some e
    → is_last ≡ (at + 1 == length m.log) → (old new : List DiskHead) (b : Bool) → b ≡ true
    → ((seen : List Entry) (k : ℕ) → ComesAfter m.log seen e is_last → old ≡ heads_at (opened m) seen k
    → Followed b (opened m) seen e k new)
    → old ≡ heads_at (opened m) (take at m.log) n → new ≡ heads_at (opened m) (take (at + 1) m.log) n
follows_on m at n e is_last here last old new b went follows was =
    let after : ComesAfter m.log (take at m.log) e is_last = record {
      later = drop (suc at) m.log;
      split = parted m.log at e here;
      last = search (rules, drop_all (suc at) m.log);
    } in
    let did : new ≡ heads_at (opened m) (take at m.log ++ e ∷ []) n =
    subst (λ (c : Bool). Followed c (opened m) (take at m.log) e n new) went (follows (take at m.log) n after was) in
    let next : suc at ≡ at + 1 = omega arith in
    did ∙ ap (λ (es : List Entry). heads_at (opened m) es n)
    (sym (take_one m.log at e here) ∙ ap (λ k. take k m.log) next)

-- so the heads of the log noted so far become those of the whole log
pub noted_then : (m : MeshView) (old : HeadsView) (ds : List DiskHead) (k : ℕ) → record { disks = ds; noted = k } ≡ old
    → ((seen : List Entry) × IsPrefixOf seen m.log × AreHeads (opened m) seen old) → (new : List DiskHead)
    → (ds ≡ heads_at (opened m) (take k m.log) (length ds) → new ≡ heads_at (opened m) m.log (length ds))
    → (n : ℕ) → n ≡ length m.log → AreHeads (opened m) m.log (record { disks = new; noted = n })
noted_then m old ds k view (seen, begins, are) new gives n all =
    search (
      rules,
      length-map-range_with_len (disk_head (replay (opened m) seen) seen) 0 (length (opened m).disks),
      take k m.log,
      ap (λ (es : List Entry). take (length seen) es) begins.1,
      take-append_seam seen begins.0,
    )

-- a list that is written over one of its length is there whole
pub written_whole : {X : Type 0} (k : ℕ) (xs ys : List X) → length xs ≡ k → take k (xs ++ ys) ≡ xs
written_whole k xs ys same = ap (λ (i : ℕ). take i (xs ++ ys)) (sym same) ∙ take-append_seam xs ys

-- The heads of disks of which nothing is known are those of a mesh before its first entry.

-- a disk with its head at the first sector
abbrev at_first : List Waiting → DiskHead
at_first waiting = record { head = 0; waiting = waiting }

-- where there is no bio none waits for a disk
none_waits : (w : World) (disk : ℕ) → w.bios ≡ [] → waiting_for w disk ≡ []
none_waits w disk none = ap (λ (bs : List Bio). map (waiting_of w) (filter (is_sent_to w disk) bs)) none

-- so of each disk nothing is known
none_known : (w : World) → w.bios ≡ [] → (disks : List ℕ) → map no_head disks ≡ map (disk_head w []) disks
none_known w none [] = refl
none_known w none (d ∷ ds) = search rules

-- before the first entry
none_noted : (m : MeshView) (count : ℕ) → count ≡ length (opened m).disks → AreHeads (opened m) [] (no_heads count)
none_noted m count is =
    search (rules, none_known (opened m) (opening_none m.plan m.facts) (range_with_len 0 (length (opened m).disks)))

-- the header has one disk for each of the plan
header_length : (decls : List DiskDecl) (facts : List (ℕ × ℕ)) → AllZip IsFact decls facts
    → length decls ≡ length (map disk_in_size (zip decls facts))
header_length decls facts fit =
    let mapped = length-map (zip decls facts) disk_in_size in
    let zipped = length-zip decls facts in
    let same = AllZip-long IsFact decls facts fit in
    omega (arith, mapped, zipped, same)

-- so new heads, one for each disk of the plan, are those of the mesh before its first entry
pub new_heads : (m : MeshView) → IsHistory m → (count : ℕ) → count ≡ length m.plan.disks
    → AreHeads (opened m) [] (no_heads count)
new_heads m history count is =
    none_noted m count
    (is ∙ header_length m.plan.disks m.facts history.facts
    ∙ ap (λ (ds : List HeaderDisk). length ds) (sym (opening_disks m.plan m.facts)))

-- and heads that forgot all are those of the mesh before its first entry
pub forgotten : (m : MeshView) (old new : HeadsView)
    → ((seen : List Entry) × IsPrefixOf seen m.log × AreHeads (opened m) seen old)
    → new ≡ no_heads (length old.disks) → AreHeads (opened m) [] new
forgotten m old new (seen, begins, are) is =
    subst (λ (h : HeadsView). AreHeads (opened m) [] h) (sym is)
    (none_noted m (length old.disks)
    (ap (λ (ds : List DiskHead). length ds) are.disks
    ∙ length-map-range_with_len (disk_head (replay (opened m) seen) seen) 0 (length (opened m).disks)))

-- where a note failed
pub forgotten_then : {T E : Type 0} (r : Result T E) (m : MeshView) (old new : HeadsView)
    → ((seen : List Entry) × IsPrefixOf seen m.log × AreHeads (opened m) seen old)
    → OnErr r (new ≡ no_heads (length old.disks)) → OnErr r (AreHeads (opened m) [] new)
forgotten_then (Ok x) m old new part is = tt
forgotten_then (Err e) m old new part is = forgotten m old new part is
