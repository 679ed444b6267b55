-- What is lent, how often the disks of each name failed, and the takes and gives of it, and with what each was offered
-- back.
use Rattle.std.specs.Prelude.{◌≡◌, ℕ, List, [], Option, true, is_some}
use Rattle.std.specs.Option.{option_map_or}
use Rattle.geo_disk.specs.Counts.{counted_on}
use Rattle.geo_disk.specs.Names.{is_among, named}
use Rattle.geo_disk.specs.Calls.{CallMade}
use Rattle.geo_disk.specs.declared.lending.Count.{Count}
use Rattle.geo_disk.specs.declared.lending.Returned.{Returned}
use Rattle.geo_disk.specs.declared.lending.Tally.{Tally}

-- what a shelf keeps of its names
pub record Loans : Type 0 where
  -- the names that are lent, in the order in which they were taken
  pub lent : List (List ℕ)
  -- the counts of names
  pub counts : List Count
  -- the disks that were offered back, the last one first
  pub returned : List Returned

-- the count that stands under a name
abbrev pub count_of : List Count → List ℕ → Option Count
count_of counts name = named (λ c. c.name) name counts

-- nothing failed
abbrev pub no_faults : Tally
no_faults = record { faults = 0; take_faults = 0; give_faults = 0 }

-- how often the disks of a name, its takes and its gives failed: 0 where none was taken
abbrev pub tally_in : List Count → List ℕ → Tally
tally_in counts name = option_map_or (λ c. c.tally) (count_of counts name) no_faults

-- each name that is lent has a count
abbrev pub HasCounts : List (List ℕ) → List Count → Type 0
HasCounts lent counts = (name : List ℕ) → is_among name lent ≡ true → is_some (count_of counts name) ≡ true

-- there is room for the counts of a name
abbrev pub HasCount : Loans → List ℕ → Type 0
HasCount loans name = is_some (count_of loans.counts name) ≡ true

-- the counts that the calls know
abbrev pub tally_of : Loans → List ℕ → Tally
tally_of loans name = tally_in loans.counts name

abbrev pub faults_of : Loans → List ℕ → ℕ
faults_of loans name = (tally_of loans name).faults

abbrev pub take_faults_of : Loans → List ℕ → ℕ
take_faults_of loans name = (tally_of loans name).take_faults

abbrev pub give_faults_of : Loans → List ℕ → ℕ
give_faults_of loans name = (tally_of loans name).give_faults

-- the counts of a name after its disk was offered back with a count, and after a take or a give of it failed
abbrev pub with_faults : ℕ → Tally → Tally
with_faults faults tally = record tally { faults = faults }

abbrev pub take_failed : Tally → Tally
take_failed tally = record tally { take_faults = counted_on tally.take_faults }

abbrev pub give_failed : Tally → Tally
give_failed tally = record tally { give_faults = counted_on tally.give_faults }

-- what the disk of a name had been asked when it was last offered back: nothing where none was
abbrev pub asked_in : List Returned → List ℕ → List CallMade
asked_in returned name = option_map_or (λ r. r.asked.items) (named (λ r. r.name) name returned) []

-- with how many sectors it was last offered back: 0 where none was
abbrev pub sectors_in : List Returned → List ℕ → ℕ
sectors_in returned name = option_map_or (λ r. r.sectors) (named (λ r. r.name) name returned) 0

-- the same, as the calls know them
abbrev pub returned_asked : Loans → List ℕ → List CallMade
returned_asked loans name = asked_in loans.returned name

abbrev pub returned_sectors : Loans → List ℕ → ℕ
returned_sectors loans name = sectors_in loans.returned name
