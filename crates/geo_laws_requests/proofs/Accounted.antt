-- What is accounted for stays so, where a step names another bio or none.
use Rattle.std.specs.Prelude.{◌≡◌, ℕ, ◌||◌, Bool, true, false, List, [], ◌∷◌, ◌++◌, length, count_by, Option, Some, None, IsTrue, IsSomeAnd, Contains}
use Rattle.std.specs.List.{list_any}
use Rattle.std.proofs.Common.{refl, sym, ◌∙◌, ap, subst, inl, inr}
use Rattle.std.proofs.lemmas.Bool.{both_ways, eq-eqb}
use Rattle.std.proofs.Math.Bool.{or-false}
use Rattle.std.proofs.lemmas.List.Elements.{Contains-append_cases}
use Rattle.std.proofs.lemmas.List.Sums.{length-filter}
use Rattle.geo_model.specs.declared.step.BioResult.{BioResult}
use Rattle.geo_model.specs.declared.step.Entry.{Entry}
use Rattle.geo_model.specs.declared.step.Reply.{Reply}
use Rattle.geo_model.specs.declared.step.Step.TheVariants as steps
use Rattle.geo_model.specs.Topology.{Provider, provider_at}
use Rattle.geo_model.specs.World.{World, Bio, bio_at}
use Rattle.geo_model.specs.Log.{Moment}
use Rattle.geo_model.specs.Results.{Covers, CoversRange, CoversEnds, entries_of, leaves, result_of, is_up_of}
use Rattle.geo_model.specs.Bios.{reply_of_result}
use Rattle.geo_model.specs.History.{Acceptance, CoversFrom, IsSuccess, RepliesWithResult, is_reply_to}
use Rattle.geo_laws_graph.proofs.Members.{Contains-cases, nothing_in}
use Rattle.geo_laws_graph.proofs.Numbered.{any-pushed, filter-pushed, number_found}
use Rattle.geo_laws_requests.specs.Histories.{names_bio, AnsweredAreTaken}
use Rattle.geo_laws_requests.proofs.Looks.{entries_of_both}
use Rattle.geo_laws_requests.proofs.Finished.{finished_stay}
use Rattle.geo_laws_steps.specs.WayLaws.{SameMap}
use Rattle.geo_laws_requests.specs.Ledger.{IsSameRequest, IsOnItsWay, IsCompleted}
use Rattle.geo_laws_requests.proofs.Logged.{unnamed, no_reply}

-- one more entry that doesn't pass isn't counted
pub count_past : {X : Type 0} (test : X → Bool) (xs : List X) (y : X) → test y ≡ false
    → count_by test (xs ++ y ∷ []) ≡ count_by test xs
count_past test xs y other =
    sym (length-filter test (xs ++ y ∷ [])) ∙ ap (λ zs. length zs) (filter-pushed test xs y other)
    ∙ length-filter test xs

-- with one more entry that isn't a reply to a bio there are as many replies as before
pub replies_stay : (h : List Moment) (m : Moment) (b : ℕ) → is_reply_to b m.entry ≡ false
    → count_by (is_reply_to b) (entries_of (h ++ m ∷ [])) ≡ count_by (is_reply_to b) (entries_of h)
replies_stay h m b none =
    ap (λ log. count_by (is_reply_to b) log) (entries_of_both h (m ∷ []))
    ∙ count_past (is_reply_to b) (entries_of h) m.entry none

-- what is the result of a bio stays its result
result_is : (h : List Moment) (m : Moment) (b : ℕ) (P : BioResult → Type 0) → IsSomeAnd (result_of h b) P
    → IsSomeAnd (result_of (h ++ m ∷ []) b) P
result_is h m b P some = by (result_of h b) refl some
  where
    by : (o : Option BioResult) → result_of h b ≡ o → IsSomeAnd o P → IsSomeAnd (result_of (h ++ m ∷ []) b) P
    by None is some = absurd some
    by (Some r) is some = rw (finished_stay.results h (m ∷ []) b r is) some

-- leaves that cover a bio, from the world of its acceptance, cover it as long as the history goes on
covers_from : (h : List Moment) (m : Moment) (a : Acceptance) (r : BioResult) → AnsweredAreTaken h
    → result_of h a.bio ≡ Some r → CoversFrom a h → CoversFrom a (h ++ m ∷ [])
covers_from h m a r taken found covers = by (bio_at a.world a.bio) refl covers
  where
    its_leaves : leaves (h ++ m ∷ []) a.bio ≡ leaves h a.bio
    its_leaves = finished_stay.leaves h (m ∷ []) a.bio r taken found

    at : (x : Bio) → x.number ≡ a.bio → (p : Provider) → Covers a.world h x p → Covers a.world (h ++ m ∷ []) x p
    at x number p covers =
        let same : leaves h x.number ≡ leaves (h ++ m ∷ []) x.number =
        ap (λ n. leaves h n) number ∙ sym its_leaves ∙ ap (λ n. leaves (h ++ m ∷ []) n) (sym number) in
        record {
          range = λ moves. subst (λ found. CoversRange a.world x p found) same (covers.range moves);
          flush = λ flushes. subst (λ found. CoversEnds a.world x p found) same (covers.flush flushes);
        }

    there : (x : Bio) → x.number ≡ a.bio → (o : Option Provider) → IsSomeAnd o (λ p. Covers a.world h x p)
        → IsSomeAnd o (λ p. Covers a.world (h ++ m ∷ []) x p)
    there x number None some = some
    there x number (Some p) some = at x number p some

    by : (o : Option Bio) → bio_at a.world a.bio ≡ o
        → IsSomeAnd o (λ x. IsSomeAnd (provider_at a.world.topology x.target) (λ p. Covers a.world h x p))
        → IsSomeAnd o (λ x. IsSomeAnd (provider_at a.world.topology x.target) (λ p. Covers a.world (h ++ m ∷ []) x p))
    by None is some = some
    by (Some x) is some =
        there x (number_found (λ (y : Bio). y.number) a.world.bios a.bio x is)
        (provider_at a.world.topology x.target) some

-- a step that is the Up of a bio names it
up_names : (b : ℕ) (m : Moment) → names_bio b m.entry.step ≡ false → m.entry.step ≡ steps.Up b → ⊥
up_names b m none up =
    let not_up : is_up_of b m.entry.step ≡ false = (unnamed b m.entry.step none).up in
    let it_is : is_up_of b m.entry.step ≡ true = rw up (eq-eqb b b refl) in
    both_ways (is_up_of b m.entry.step) not_up it_is

-- an entry of a list of one is that one
pub only_one : (x y : Entry) → Contains (y ∷ []) x → x ≡ y
only_one x y here =
    elim (Contains-cases y x [] here) [
      | inl same ↦ sym same
      | inr rest ↦ absurd (nothing_in x rest)
    ]

-- a bio that is complete stays so, where a step doesn't name it
pub completed_stays : (h : List Moment) (m : Moment) (a : Acceptance) → AnsweredAreTaken h
    → names_bio a.bio m.entry.step ≡ false → IsCompleted h a → IsCompleted (h ++ m ∷ []) a
completed_stays h m a taken none done = record {
  completes = record {
    at_most_once = rw (replies_stay h m a.bio other) done.completes.at_most_once;
    reply = λ e line given in_log is_up is_reply.
        elim (Contains-append_cases (entries_of h) (m.entry ∷ []) e
        (subst (λ log. Contains log e) (entries_of_both h (m ∷ [])) in_log)) [
          | inl before ↦ replied line given (done.completes.reply e line given before is_up is_reply)
          | inr new ↦
              let same : e ≡ m.entry = only_one e m.entry new in
              absurd (up_names a.bio m none (ap (λ (x : Entry). x.step) (sym same) ∙ is_up))
        ];
    covers = λ any.
        let before : IsTrue (list_any (is_reply_to a.bio) (entries_of h)) =
        subst IsTrue (any_before) any in
        covered (done.completes.covers before);
  };
  replied = replies_stay h m a.bio other ∙ done.replied;
}
  where
    other : is_reply_to a.bio m.entry ≡ false
    other = no_reply a.bio m none

    any_before : list_any (is_reply_to a.bio) (entries_of (h ++ m ∷ [])) ≡ list_any (is_reply_to a.bio) (entries_of h)
    any_before =
        ap (λ log. list_any (is_reply_to a.bio) log) (entries_of_both h (m ∷ []))
        ∙ any-pushed (is_reply_to a.bio) (entries_of h) m.entry
        ∙ ap (λ b. list_any (is_reply_to a.bio) (entries_of h) || b) other
        ∙ or-false (list_any (is_reply_to a.bio) (entries_of h))

    replied : (line : ℕ) (given : Reply) → RepliesWithResult a h line given
        → RepliesWithResult a (h ++ m ∷ []) line given
    replied line given was = record {
      same_line = was.same_line;
      is_result = result_is h m a.bio (λ r. given ≡ reply_of_result r) was.is_result;
    }

    covered : IsSomeAnd (result_of h a.bio) (λ r. IsSuccess r → CoversFrom a h)
        → IsSomeAnd (result_of (h ++ m ∷ []) a.bio) (λ r. IsSuccess r → CoversFrom a (h ++ m ∷ []))
    covered some = by (result_of h a.bio) refl some
      where
        by : (o : Option BioResult) → result_of h a.bio ≡ o → IsSomeAnd o (λ r. IsSuccess r → CoversFrom a h)
            → IsSomeAnd (result_of (h ++ m ∷ []) a.bio) (λ r. IsSuccess r → CoversFrom a (h ++ m ∷ []))
        by None is some = absurd some
        by (Some r) is some =
            rw (finished_stay.results h (m ∷ []) a.bio r is) (λ success. covers_from h m a r taken is (some success))

-- a bio that is on its way stays so, however far it has come, where its provider keeps its map
pub on_its_way_stays : (w v : World) (a : Acceptance) (x y : Bio) → x.owner ≡ y.owner → IsSameRequest x y
    → SameMap w.topology v.topology x.target → IsOnItsWay w a x → IsOnItsWay v a y
on_its_way_stays w v a x y owner same its_map way = record {
  handle = way.handle;
  owner = sym owner ∙ way.owner;
  same = by (bio_at a.world a.bio) way.same;
  its_map = subst (λ p. SameMap a.world.topology v.topology p) (sym same.target)
      (record {
        sizes = its_map.sizes ∙ way.its_map.sizes;
        sectors = λ o. its_map.sectors o ∙ way.its_map.sectors o;
        disks = its_map.disks ∙ way.its_map.disks;
      });
}
  where
    by : (o : Option Bio) → IsSomeAnd o (λ z. IsSameRequest z x) → IsSomeAnd o (λ z. IsSameRequest z y)
    by None some = some
    by (Some z) some = record {
      cmd = same.cmd ∙ some.cmd;
      offset = same.offset ∙ some.offset;
      len = same.len ∙ some.len;
      bytes = same.bytes ∙ some.bytes;
      target = same.target ∙ some.target;
    }
