-- What is said of a list of handles, beside what the mesh's definitions say of a world that has them.
use Rattle.std.specs.Prelude.{◌≡◌, ℕ, ◌==◌, Bool, false, List, [], ◌∷◌, ◌++◌, map, option_map, if◌then◌else◌}
use Rattle.std.specs.Option.{option_map_or}
use Rattle.geo_base.specs.declared.request.Counts.{Counts}
use Rattle.geo_model.specs.World.{World, Handle, granted_in, taste_grant, handle_of}
use Rattle.geo_model.specs.WorldEvents.{kill_handle}
use Rattle.geo_model.specs.HandleCommands.{with_handle, without_handle}
use Rattle.geo_model.specs.Freeing.{is_to_reap, reap_work, reap_consumer}
use Rattle.geo_slots.specs.Slots.{with_value, without}
use Rattle.geo_handles.specs.Handles.{HandlesView, named_handle, holding_handle, with_opened, killed, released, closed, first_ready}

-- each handle's number with what a test says of the handle
abbrev pub noted_handles : (Handle → Bool) → List Handle → List (ℕ × Bool)
noted_handles test handles = map (λ h. (h.number, test h)) handles

-- look-ups and changes of the handles are those of the world; where just those that can be reaped are noted, the
-- first of them is the one that is reaped next
pub record HandlesAreOfWorld (w : World) : Type 0 where
  pub finds : (actor : ℕ) (name : List ℕ) → named_handle w.handles actor name ≡ handle_of w actor name
  pub grants : (c : ℕ)
      → option_map_or (λ h. h.grant) (holding_handle w.handles c) (taste_grant w.taste c) ≡ granted_in w c
  pub opens : (v : HandlesView) → v.handles ≡ w.handles → v.next ≡ w.next_handle
      → (actor : ℕ) (name : List ℕ) (p : ℕ) (grant : Counts)
      → (with_opened v actor name w.topology.next_consumer grant).handles
      ≡ (with_handle w actor name p grant).handles
  pub kills : (c : ℕ) → record w { handles = killed w.handles c } ≡ kill_handle w c
  pub reaps : (c : ℕ) → released w.handles c ≡ (reap_consumer w c).handles
  pub closes : (h : Handle) → closed w.handles h.number ≡ (without_handle w h).handles
  pub first : (ready : List (ℕ × Bool)) → ready ≡ noted_handles (is_to_reap w) w.handles
      → first_ready ready ≡ option_map (λ h. h.number) (reap_work w)

-- where the notes are what a test says, they are so after a handle came that doesn't pass it, after one was closed,
-- and after one was noted otherwise
pub record NotesFollow (test : Handle → Bool) (handles : List Handle) : Type 0 where
  pub opens : (h : Handle) → test h ≡ false
      → noted_handles test handles ++ (h.number, false) ∷ [] ≡ noted_handles test (handles ++ h ∷ [])
  pub closes : (n : ℕ) → without (noted_handles test handles) n ≡ noted_handles test (closed handles n)
  pub notes : (n : ℕ) (b : Bool)
      → with_value (noted_handles test handles) n b ≡ noted_handles (λ h. if h.number == n then b else test h) handles
