-- A log that is read chunk by chunk is listed as if it were read at once.
use Rattle.logs.specs.Claims.{InChunks}
use Rattle.logs.proofs.Chunks.{in_chunks as listing_in_chunks}
use Rattle.cblist.specs.Paper.{line_of}

pub in_chunks : InChunks line_of
in_chunks = listing_in_chunks line_of
