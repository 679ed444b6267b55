-- The error of a finished bio is the first that it met.
use Rattle.std.specs.Prelude.{◌≡◌, ℕ, zero, suc, Bool, true, false, List, [], ◌∷◌, ◌++◌, length, map, flat_map, Option, Some, None, option_map}
use Rattle.std.specs.Option.{option_map_or}
use Rattle.std.proofs.Common.{refl, sym, ◌∙◌}
use Rattle.geo_base.specs.declared.errno.Errno.{Errno}
use Rattle.geo_base.specs.declared.request.BioCmd.{BioCmd}
use Rattle.geo_model.specs.declared.step.BioResult.{BioResult}
use Rattle.geo_model.specs.declared.step.BioResult.TheVariants as results
use Rattle.geo_model.specs.declared.step.DeviceResult.{DeviceResult}
use Rattle.geo_model.specs.declared.step.DeviceResult.TheVariants as devices
use Rattle.geo_model.specs.declared.step.Outcome.{Outcome}
use Rattle.geo_model.specs.declared.step.Outcome.TheVariants as outcomes
use Rattle.geo_model.specs.Words.{◌>>=◌, is_read}
use Rattle.geo_model.specs.World.{World}
use Rattle.geo_model.specs.Bios.{error_of_result, first_failure, joined_result, result_of_device}
use Rattle.geo_model.specs.Log.{Moment}
use Rattle.geo_model.specs.Results.{result_within, result_of, result_by, all_there, cmd_before, children_in, start_moment, device_answer_of, entries_of, bounced_result}
use Rattle.geo_model.specs.Errors.{errors_within, errors_of, errors_by, device_errors, first_of}

-- the first of two lists in a row
first_of-append : (a b : List Errno) → first_of (a ++ b) ≡ option_map_or (λ e. Some e) (first_of a) (first_of b)
first_of-append [] b = refl
first_of-append (e ∷ a) b = refl

-- the error of a joined result is the first failure
joined-chosen : (cmd : BioCmd) (read : Bool) (found : List BioResult) (o : Option Errno) → first_failure found ≡ o
    → is_read cmd ≡ read
    → error_of_result (joined_result cmd found) ≡ o
joined-chosen cmd read found (Some e) first reads = rw first refl
joined-chosen cmd true found None first reads = rw (first, reads) refl
joined-chosen cmd false found None first reads = rw (first, reads) refl

joined-error : (cmd : BioCmd) (found : List BioResult) → error_of_result (joined_result cmd found) ≡ first_failure found
joined-error cmd found = joined-chosen cmd (is_read cmd) found (first_failure found) refl refl

module _ (f : ℕ → Option BioResult) (g : ℕ → List Errno) (known : (b : ℕ) (r : BioResult) → f b ≡ Some r
    → error_of_result r ≡ first_of (g b)) where
  mutual_there : (b : ℕ) (bs : List ℕ) (here : Option BioResult) (others : Option (List BioResult))
      (found : List BioResult)
      → f b ≡ here → all_there (map f bs) ≡ others → all_there (map f (b ∷ bs)) ≡ Some found
      → ((rest : List BioResult) → all_there (map f bs) ≡ Some rest → first_failure rest ≡ first_of (flat_map g bs))
      → first_failure found ≡ first_of (flat_map g (b ∷ bs))
  mutual_there b bs None others found e h all rest = let none : None ≡ Some found = rw e at all in cc
  mutual_there b bs (Some r) None found e h all rest = let none : None ≡ Some found = rw (e, h) at all in cc
  mutual_there b bs (Some r) (Some rs) found e h all rest =
      let same : Some (r ∷ rs) ≡ Some found = rw (e, h) at all in
      let is : r ∷ rs ≡ found = cc in
      rw (sym is, first_of-append (g b) (flat_map g bs), sym (known b r e), sym (rest rs h)) refl

  -- the first failure among children is the first error that they met
  pub children-first : (bs : List ℕ) (found : List BioResult) → all_there (map f bs) ≡ Some found
      → first_failure found ≡ first_of (flat_map g bs)
  children-first [] found all = let is : [] ≡ found = cc in rw (sym is) refl
  children-first (b ∷ bs) found all =
      mutual_there b bs (f b) (all_there (map f bs)) found refl refl all (λ rest h. children-first bs rest h)

-- a device's answer
device-error : (o : Option DeviceResult) (r : BioResult) → option_map result_of_device o ≡ Some r
    → error_of_result r ≡ first_of (device_errors o)
device-error None r e = cc
device-error (Some (devices.Bytes bytes)) r e = let is : results.Bytes bytes ≡ r = cc in rw (sym is) refl
device-error (Some devices.Done) r e = let is : results.Done ≡ r = cc in rw (sym is) refl
device-error (Some (devices.Failed done)) r e = let is : result_of_device (devices.Failed done) ≡ r = cc in
    rw (sym is) refl

split-error : (f : ℕ → Option BioResult) (g : ℕ → List Errno)
    → ((b : ℕ) (r : BioResult) → f b ≡ Some r → error_of_result r ≡ first_of (g b))
    → (bs : List ℕ) (cmd : Option BioCmd) (all : Option (List BioResult)) (r : BioResult) → all_there (map f bs) ≡ all
    → (cmd >>= (λ c. all >>= (λ found. Some (joined_result c found)))) ≡ Some r
    → error_of_result r ≡ first_of (flat_map g bs)
split-error f g known bs None all r h e = cc
split-error f g known bs (Some cmd) None r h e = cc
split-error f g known bs (Some cmd) (Some found) r h e =
    let is : joined_result cmd found ≡ r = cc in
    rw (sym is) (joined-error cmd found ∙ children-first f g known bs found h)

-- by the outcome of the Start
outcome-error : (levels : ℕ) (history : List Moment)
    → ((b : ℕ) (r : BioResult) → result_within levels history b ≡ Some r
    → error_of_result r ≡ first_of (errors_within levels history b))
    → (b : ℕ) (before : World) (outcome : Outcome) (r : BioResult)
    → result_by history b before outcome (map (result_within levels history) (children_in outcome)) ≡ Some r
    → error_of_result r ≡ first_of (errors_by (errors_within levels history) history b before outcome)
outcome-error levels history known b before outcomes.Bounced r e = let is : bounced_result before b ≡ r = cc in
    rw (sym is) refl
outcome-error levels history known b before (outcomes.Queued disk) r e =
    device-error (device_answer_of (entries_of history) b) r e
outcome-error levels history known b before (outcomes.Split first count) r e =
    split-error (result_within levels history) (errors_within levels history) known
    (children_in (outcomes.Split first count))
    (cmd_before before b)
    (all_there (map (result_within levels history) (children_in (outcomes.Split first count)))) r refl e
outcome-error levels history known b before (outcomes.Replied line reply) r e = cc
outcome-error levels history known b before (outcomes.Accepted line bio) r e = cc
outcome-error levels history known b before (outcomes.Reading bio) r e = cc
outcome-error levels history known b before outcomes.Ran r e = cc
outcome-error levels history known b before (outcomes.Asked request) r e = cc
outcome-error levels history known b before outcomes.Delivered r e = cc
outcome-error levels history known b before (outcomes.Gathered parent complete) r e = cc
outcome-error levels history known b before outcomes.TasteBack r e = cc

moment-error : (levels : ℕ) (history : List Moment)
    → ((b : ℕ) (r : BioResult) → result_within levels history b ≡ Some r
    → error_of_result r ≡ first_of (errors_within levels history b))
    → (b : ℕ) (o : Option Moment) (r : BioResult) → start_moment history b ≡ o
    → result_within (suc levels) history b ≡ Some r
    → error_of_result r ≡ first_of (errors_within (suc levels) history b)
moment-error levels history known b None r s e = let none : None ≡ Some r = rw s at e in cc
moment-error levels history known b (Some m) r s e =
    rw s (outcome-error levels history known b m.before m.entry.outcome r (rw s at e))

within-error : (levels : ℕ) (history : List Moment) (b : ℕ) (r : BioResult)
    → result_within levels history b ≡ Some r → error_of_result r ≡ first_of (errors_within levels history b)
within-error zero history b r e = cc
within-error (suc levels) history b r e =
    moment-error levels history (within-error levels history) b (start_moment history b) r refl e

pub error_of_result-result_of : (history : List Moment) (b : ℕ) (r : BioResult)
    → result_of history b ≡ Some r → error_of_result r ≡ first_of (errors_of history b)
error_of_result-result_of history b r e = within-error (length history) history b r e
