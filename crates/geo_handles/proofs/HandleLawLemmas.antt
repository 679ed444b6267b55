-- What is said of a list of handles is what the mesh's definitions say of a world.
use Rattle.std.specs.Prelude.{◌≡◌, ℕ, ◌==◌, ◌∷◌, ◌++◌, Bool, true, false, List, [], find, option_map, if◌then◌else◌}
use Rattle.std.proofs.Common.{refl, sym, ap, ◌∙◌}
use Rattle.std.proofs.lemmas.Bool.{eqb-true}
use Rattle.std.proofs.lemmas.List.{map-append}
use Rattle.geo_model.specs.World.{World, Handle}
use Rattle.geo_model.specs.Freeing.{is_to_reap}
use Rattle.geo_slots.specs.Slots.{with_value, without}
use Rattle.geo_handles.specs.Handles.{closed, first_ready}
use Rattle.geo_handles.specs.HandleLaws.{noted_handles, HandlesAreOfWorld, NotesFollow}

-- the first number that is noted is that of the first handle that passes the test
first_noted : (test : Handle → Bool) (handles : List Handle)
    → first_ready (noted_handles test handles) ≡ option_map (λ h. h.number) (find test handles)
first_noted test [] = refl
first_noted test (h ∷ hs) = at (test h) refl (first_noted test hs) where
  at : (b : Bool) → test h ≡ b → first_ready (noted_handles test hs)
      ≡ option_map (λ (h : Handle). h.number) (find test hs)
      → first_ready (noted_handles test (h ∷ hs)) ≡ option_map (λ (h : Handle). h.number) (find test (h ∷ hs))
  at true e rest = rw e refl
  at false e rest = rw e rest

-- look-ups and changes are those of the world
pub handles_are_of_world : (w : World) → HandlesAreOfWorld w
handles_are_of_world w = record {
  finds = λ actor name. refl;
  grants = λ c. refl;
  opens = λ v handles next actor name p grant. rw (handles, next) refl;
  kills = λ c. refl;
  reaps = λ c. refl;
  closes = λ h. refl;
  first = λ ready same. ap first_ready same ∙ first_noted (is_to_reap w) w.handles;
}

-- Notes

module _ (test : Handle → Bool) where
  -- the notes without a number are those of the handles without it
  notes_without : (n : ℕ) (handles : List Handle) → without (noted_handles test handles) n
      ≡ noted_handles test (closed handles n)
  notes_without n [] = refl
  notes_without n (h ∷ hs) = at (h.number == n) refl (notes_without n hs) where
    at : (b : Bool) → (h.number == n) ≡ b → without (noted_handles test hs) n ≡ noted_handles test (closed hs n)
        → without (noted_handles test (h ∷ hs)) n ≡ noted_handles test (closed (h ∷ hs) n)
    at true e rest = rw e rest
    at false e rest = rw e (ap (λ rows. (h.number, test h) ∷ rows) rest)

  -- another note of a number is another test of its handle
  notes_with : (n : ℕ) (b : Bool) (handles : List Handle)
      → with_value (noted_handles test handles) n b ≡ noted_handles (λ h. if h.number == n then b else test h) handles
  notes_with n b [] = refl
  notes_with n b (h ∷ hs) = at (h.number == n) refl (notes_with n b hs) where
    at : (d : Bool) → (h.number == n) ≡ d
        → with_value (noted_handles test hs) n b ≡ noted_handles (λ h. if h.number == n then b else test h) hs
        → with_value (noted_handles test (h ∷ hs)) n b
        ≡ noted_handles (λ h. if h.number == n then b else test h) (h ∷ hs)
    at true e rest = let number : h.number ≡ n = eqb-true h.number n e in rw (e, number, rest) refl
    at false e rest = rw (e, rest) refl

-- the notes follow each change
pub notes_follow : (test : Handle → Bool) (handles : List Handle) → NotesFollow test handles
notes_follow test handles = record {
  opens =
      λ h fails. sym (map-append (λ (h : Handle). (h.number, test h)) handles (h ∷ [])
      ∙ ap (λ b. noted_handles test handles ++ (h.number, b) ∷ []) fails);
  closes = λ n. notes_without test n handles;
  notes = λ n b. notes_with test n b handles;
}
