-- The source was read to its end, or not.
use Rattle.geo_run.proofs.Reading.{gave_whole, read_fault, read_long, read_lost}
use Rattle.geo_run.proofs.read.read_source.Goals as goal

-- the source said that it ended, within the limit
pub returns-in-Ok-clause-whole : goal.returns-in-Ok-clause-whole
returns-in-Ok-clause-whole g c =
    gave_whole c.args.limit _ _ c.in-Ok.text c.in-Ok.ensures.all (c.in-Ok.ensures.told (λ e. cc)) c.in-Ok.ensures.end
    c.in-Ok.ensures.within c.in-Ok.ensures.reads

-- the source failed after what it had given
pub returns-in-Err-ReadFault-clause-part : goal.returns-in-Err-ReadFault-clause-part
returns-in-Err-ReadFault-clause-part g c =
    read_fault c.args.limit _ _ c.in-Err-ReadFault.field-0 c.in-Err-ReadFault.field-0-is
    c.in-Err-ReadFault.ensures.fault_taken c.in-Err-ReadFault.ensures.one c.in-Err-ReadFault.ensures.reads

-- it gave more than the limit, so the rest wasn't read
pub returns-in-Err-TooLong-clause-part : goal.returns-in-Err-TooLong-clause-part
returns-in-Err-TooLong-clause-part g c =
    read_long c.args.limit _ _ c.in-Err-TooLong.field-0 c.in-Err-TooLong.field-0-is c.in-Err-TooLong.ensures.too_long
    c.in-Err-TooLong.ensures.told c.in-Err-TooLong.ensures.reads

-- memory was wanting for what it gave
pub returns-in-Err-NoMemory-clause-part : goal.returns-in-Err-NoMemory-clause-part
returns-in-Err-NoMemory-clause-part g c =
    read_lost c.args.limit _ _ c.in-Err-NoMemory.field-0 c.in-Err-NoMemory.field-0-is c.in-Err-NoMemory.ensures.lost
    c.in-Err-NoMemory.ensures.told c.in-Err-NoMemory.ensures.reads
