-- Handles, as contracts see them.
use Rattle.std.specs.Prelude.{◌≡◌, ℕ, ◌+◌, ◌==◌, ◌&&◌, Bool, true, false, not, List, [], ◌∷◌, ◌++◌, Option, Some, None, find, filter, option_map}
use Rattle.std.specs.List.{AllByRecursion}
use Rattle.geo_base.specs.declared.request.Counts.{Counts}
use Rattle.geo_model.specs.Words.{same_name, names_number, change_where}
use Rattle.geo_model.specs.World.{Handle}
use Rattle.geo_handles.specs.declared.records.HandleRec.{HandleRec}

-- the model's handles, in order of their numbers; the next number; each number with whether it is noted that the
-- handle can be reaped; for how many more handles memory is kept
pub record HandlesView : Type 0 where
  pub handles : List Handle
  pub next : ℕ
  pub ready : List (ℕ × Bool)
  pub room : ℕ

-- no handle
abbrev pub no_handles : ℕ → HandlesView
no_handles room = record { handles = []; next = 1; ready = []; room = room }

-- the handle that stands under a number
abbrev pub handle_seen : ℕ → HandleRec → Handle
handle_seen n x =
    record { number = n; actor = x.actor; name = x.name; consumer = x.consumer; grant = x.grant; dead = x.dead }

-- the handle of a number
abbrev pub handle_at : List Handle → ℕ → Option Handle
handle_at handles n = find (λ h. h.number == n) handles

-- the handle of the actor with the name, which is the model's `handle_of`
abbrev pub named_handle : List Handle → ℕ → List ℕ → Option Handle
named_handle handles actor name = find (λ h. (h.actor == actor) && same_name h.name name) handles

-- the handle of a consumer
abbrev pub holding_handle : List Handle → ℕ → Option Handle
holding_handle handles c = find (λ h. names_number h.consumer c) handles

-- whether a number is the one that may be there
abbrev pub is_at : Option ℕ → ℕ → Bool
is_at None m = false
is_at (Some n) m = m == n

-- each handle has the consumer just where it has the number that may be there
abbrev pub HoldsAlone : List Handle → ℕ → Option ℕ → Type 0
HoldsAlone handles c o = AllByRecursion (λ h. names_number h.consumer c ≡ is_at o h.number) handles

-- no two handles have one consumer
abbrev pub AreApart : List Handle → Type 0
AreApart handles = (c : ℕ) → HoldsAlone handles c (option_map (λ h. h.number) (holding_handle handles c))

-- with the next handle, of this actor, name, consumer and grant, which isn't dead and can't be reaped
abbrev pub with_opened : HandlesView → ℕ → List ℕ → ℕ → Counts → HandlesView
with_opened v actor name c grant = record v {
  handles =
      v.handles ++ record {
        number = v.next;
        actor = actor;
        name = name;
        consumer = Some c;
        grant = grant;
        dead = false;
      } ∷ [];
  next = v.next + 1;
  ready = v.ready ++ (v.next, false) ∷ [];
}

-- the handle of a consumer becomes dead, as in the model's `kill_handle`
abbrev pub killed : List Handle → ℕ → List Handle
killed handles c = change_where (λ h. names_number h.consumer c) (λ h. record h { dead = true }) handles

-- the handle of a consumer has none from then on, as in the model's `reap_consumer`
abbrev pub released : List Handle → ℕ → List Handle
released handles c = change_where (λ h. names_number h.consumer c) (λ h. record h { consumer = None }) handles

-- the handles without that of a number, as in the model's `without_handle`
abbrev pub closed : List Handle → ℕ → List Handle
closed handles n = filter (λ h. not (h.number == n)) handles

-- the first number that is noted
abbrev pub first_ready : List (ℕ × Bool) → Option ℕ
first_ready ready = option_map (λ row. row.0) (find (λ row. row.1) ready)
