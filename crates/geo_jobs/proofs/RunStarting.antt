-- Workers that begin, by their numbers.
use Rattle.std.specs.Prelude.{◌≡◌, ℕ, ◌+◌, ◌<◌, List, [], ◌∷◌, ◌++◌, length, true, false, Option, Some, IfSome}
use Rattle.std.proofs.Common.{ap, arith, refl, subst, rules}
use Rattle.atomic_table.specs.Seated.{TableId}
use Rattle.std.proofs.lemmas.List.{append_assoc, length-append}
use Rattle.geo_disk.specs.declared.drive.Drive.{Drive}
use Rattle.geo_serve.specs.Drives.{DriveView}
use Rattle.geo_lane.specs.LanePass.{LanePassView, next_pass}
use Rattle.geo_lock.specs.Yard.{IsPassOf}
use Rattle.geo_jobs.specs.declared.lanes.Lanes.{Lanes}
use Rattle.geo_jobs.specs.Passes.{MeshPass}
use Rattle.geo_jobs.specs.DriveList.{DriveListView}
use Rattle.geo_jobs.specs.Drives.{HasDrives}
use Rattle.geo_jobs.specs.Ends.{CanShow, PublisherView}
use Rattle.geo_jobs.specs.declared.job.Role.{Role}
use Rattle.geo_jobs.specs.declared.job.Role.TheVariants as roles
use Rattle.geo_jobs.specs.declared.run.Worker.{Worker}
use Rattle.geo_jobs.specs.Jobs.{HasItsDrives, IsRoleOf}
use Rattle.geo_jobs.specs.LanePasses.{IsPassTo}
use Rattle.geo_jobs.specs.Listings.{listing_after, listing_seen}
use Rattle.geo_jobs.specs.declared.passes.Passes.{Passes}
use Rattle.geo_jobs.specs.Deal.{dealt}
use Rattle.geo_jobs.specs.Lanes.{ArePasses, IsPutter, taker_of}
use Rattle.geo_jobs.specs.Started.{AreStarted, HasBegun, HasRole, IsFirst, IsStarted, MeshYard, beginning, other_workers, pass_of_number}

-- a job that begins isn't quiet
not_quiet : {P : Type 0} → false ≡ true → P
not_quiet {P} is = absurd {A = P} (let bad : ⊥ = cc in bad)

module _ {D : Type 0} (y : MeshYard) (lanes : Lanes) (seen : Drive D → DriveView) (actors : ℕ)
    (drives : List (Drive D)) where
  -- one more worker behind the others
  pub started_push : (n : ℕ) (ws : List (Worker D)) (w : Worker D) → AreStarted y lanes seen actors drives n ws
      → IsStarted y lanes seen actors drives (n + length ws) w
      → AreStarted y lanes seen actors drives n (ws ++ w ∷ [])
  started_push n [] w all one = (subst (λ k. IsStarted y lanes seen actors drives k w) (omega arith) one, tt)
  started_push n (x ∷ xs) w all one = (
    all.0,
    started_push (n + 1) xs w all.1 (subst (λ k. IsStarted y lanes seen actors drives k w) (omega arith) one),
  )

  -- more workers
  pub started_append : (n : ℕ) (ws vs : List (Worker D)) → AreStarted y lanes seen actors drives n ws
      → AreStarted y lanes seen actors drives (n + length ws) vs → AreStarted y lanes seen actors drives n (ws ++ vs)
  started_append n [] vs all more = subst (λ k. AreStarted y lanes seen actors drives k vs) (omega arith) more
  started_append n (x ∷ xs) vs all more = (
    all.0,
    started_append (n + 1) xs vs all.1 (subst (λ k. AreStarted y lanes seen actors drives k vs) (omega arith) more),
  )

  -- a worker that begins with the next pass
  begun : (n : ℕ) (first : MeshPass) (number : ℕ) (role : Role D) → IsPassOf y first → number ≡ n
      → IsRoleOf lanes (pass_of_number first number) role → HasItsDrives y.start.facts seen role
      → HasRole actors drives n role
      → IsStarted y lanes seen actors drives n (beginning (pass_of_number first number) role)
  begun n first number role of_yard is its_lanes its_drives its = record {
    ready = record {
      job = record {
        pass = record { yard = of_yard.yard; start = of_yard.start };
        role = its_lanes;
        quiet = λ yes. not_quiet yes;
      };
      drives = its_drives;
    };
    number = is;
    own = refl;
    role = its;
  }

-- a pass that has put nothing is within any budget
within_none : (lane : TableId) (p : LanePassView) → IsPutter lane p → IsPassTo lane [] p
within_none lane p putter = search rules

module _ {D : Type 0} (y : MeshYard) (lanes : Lanes) (seen : Drive D → DriveView) (actors : ℕ)
    (drives : List (Drive D)) (first : MeshPass) where
  -- a client, which shows nothing or can show what its pass has seen
  pub client_started : (actor : ℕ) (pass : MeshPass) (role : Role D) (down : LanePassView)
      (publisher : Option PublisherView) → IsFirst y (actor + 1) first → actor < actors → IsPutter lanes.down down
      → IfSome publisher (λ (v : PublisherView). CanShow v pass) → pass ≡ pass_of_number first first.made
      → role ≡ roles.Client (record { actor = actor; line = 0; down = down; publisher = publisher })
      → IsStarted y lanes seen actors drives (1 + actor) (beginning pass role)
  client_started actor pass role down publisher is lt putter shows pass_is role_is = record {
    ready = record {
      job = record { pass = search rules; role = search rules; quiet = λ yes. not_quiet yes };
      drives = search rules;
    };
    number = search rules;
    own = search rules;
    role = search rules;
  }

  -- the others
  pub others_started : (p : Passes) (even odd : DriveListView D) → IsFirst y (actors + 1) first → ArePasses lanes p
      → even.items ≡ dealt 0 drives → odd.items ≡ dealt 1 drives
      → HasDrives y.start.facts seen even.items → HasDrives y.start.facts seen odd.items
      → AreStarted y lanes seen actors drives (1 + actors) (other_workers first p even odd)
  others_started p even odd is passes evens odds fit_even fit_odd =
      let starts = begun y lanes seen actors drives in (
        starts _ first _ _ is.of_yard (search rules) (search rules) (search rules) (search rules),
        (
          starts _ first _ _ is.of_yard (search rules) (search rules) (search rules) (search rules),
          (
            starts _ first _ _ is.of_yard (search rules) (search rules) (search rules) (search rules),
            (
              starts _ first _ _ is.of_yard (search rules) (search rules) (search rules) (search rules),
              (
                starts _ first _ _ is.of_yard (search rules) (search rules) (search rules) (search rules),
                tt,
              ),
            ),
          ),
        ),
      )

-- the pass that is made of another has seen the mesh as that has
pub next_listing : (p : MeshPass) (n : ℕ) → listing_seen (pass_of_number p n) ≡ listing_seen p
unfolding listing_after
next_listing p n = refl

-- a view that shows what a pass has seen can go on to show what it has seen
pub can_show : (v : PublisherView) (p : MeshPass) → v.of ≡ Some p → v.stands ≡ p.seen → CanShow v p
can_show v p of stands = search rules

-- one more client behind those that have begun
pub begun_push : {D : Type 0} (y : MeshYard) (lanes : Lanes) (seen : Drive D → DriveView) (actors : ℕ)
    (first after : MeshPass) (down left puts : LanePassView) (ws : List (Worker D)) (actor : ℕ) (pass : MeshPass)
    (role : Role D) (publisher : Option PublisherView) → HasBegun y lanes seen actors first down ws
    → length ws ≡ actor → actor < actors → pass ≡ pass_of_number first first.made
    → after ≡ record first { made = first.made + 1 } → puts ≡ next_pass down
    → left ≡ record down { split = down.split + 1 }
    → role ≡ roles.Client (record { actor = actor; line = 0; down = puts; publisher = publisher })
    → IfSome publisher (λ (v : PublisherView). CanShow v pass)
    → HasBegun y lanes seen actors after left (ws ++ beginning pass role ∷ [])
begun_push y lanes seen actors first after down left puts ws actor pass role publisher has many lt p f u l r shows =
    search (
      rules,
      length-append ws (beginning pass role ∷ []),
      ap (λ (x : LanePassView). x.put) u,
      ap (λ (x : LanePassView). record x { split = x.split + 1 }) has.down_is,
      started_push y lanes seen actors,
      client_started y lanes seen actors,
    )

-- before the first nobody has begun
pub none_begun : {D : Type 0} (y : MeshYard) (lanes : Lanes) (seen : Drive D → DriveView) (actors : ℕ)
    (first : MeshPass) (down : LanePassView) (ws : List (Worker D)) → ws ≡ [] → IsFirst y 1 first
    → down ≡ taker_of lanes.down 0 → HasBegun y lanes seen actors first down ws
none_begun {D} y lanes seen actors first down ws none is down_is = search rules

-- The passes that come next

module _ (first : MeshPass) where
  -- the pass 0 after so many more
  abbrev pub after : ℕ → MeshPass
  after k = record first { made = first.made + k }

  pub after_more : (k : ℕ) (f g : MeshPass) → f ≡ after k → g ≡ record f { made = f.made + 1 } → g ≡ after (k + 1)
  after_more k f g is more = search rules

  -- the passes after one, as each is followed by the next
  module _ {f g h k : MeshPass} (one : f ≡ after 1) (second : g ≡ record f { made = f.made + 1 })
      (third : h ≡ record g { made = g.made + 1 }) (fourth : k ≡ record h { made = h.made + 1 }) where
    pub after_four : (g ≡ after 2) × (h ≡ after 3) × (k ≡ after 4)
    after_four = search rules

  pub next_after : (k : ℕ) (f : MeshPass) → f ≡ after k → pass_of_number f f.made
      ≡ pass_of_number first (first.made + k)
  next_after k f is = ap (λ (p : MeshPass). pass_of_number p p.made) is

-- one more worker behind others, with what its pass and its role are
pub push_next : {D : Type 0} (ws xs l m : List (Worker D)) {p q : MeshPass} {r s : Role D} → l ≡ ws ++ xs
    → m ≡ l ++ beginning p r ∷ [] → p ≡ q → r ≡ s → m ≡ ws ++ (xs ++ beginning q s ∷ [])
push_next {D} ws xs l m {p} {q} {r} {s} front more same alike = search (rules, append_assoc ws xs (beginning p r ∷ []))
