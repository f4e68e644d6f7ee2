-- The cases that document 01 marks P, and those of document 02's Nos. 5 and 6, all computed.
use Rattle.laws.proofs.Base.{refl}
use Rattle.sizes.specs.Paper.{whole_blocks}
use Rattle.laws.specs.Radix.{value, digits}
use Rattle.laws.specs.Search as search
use Rattle.laws.specs.Upto.{some_below, count, picked, each}
use Rattle.alphabet.specs.Paper.{alphabet, code_point, septet_of, extension, pair_point, pair_septet}
use Rattle.page.specs.Paper.{header_octets, same_page}
use Rattle.text.specs.Paper.{septets_of, unpadded, septets, packed, page_octets, bad_parameter, foreign, ends_in_cr, written_page, whole_of, decoded, left_with, trimmed, shown_with, reading_with}
use Rattle.block_writer.specs.Paper.{block, blocks}
use Rattle.block_writer.specs.Paper as cut
use Rattle.plan.specs.Paper.{bad, plan_number}
use Rattle.plan_slots.specs.Paper.{holds, lowest_slot, has_page}
use Rattle.schedule.specs.Paper.{new, place, order, tells, read}
use Rattle.sender_message.specs.Paper.{octets_of_all, descriptions, new_bits, used_part, padded}
use Rattle.sender.specs.Paper.{planned_told, new_at, write}
use Rattle.board.specs.Paper.{is_wanted, reads, decide}
use Rattle.board_held.specs.Paper.{is_held, tells_of}
use Rattle.edges.specs.Claims.{Edges, PairEdgesWritten, PairEdgesRead, BlankEdges}

pub edges : Edges
unfolding whole_blocks value digits search.some search.first_from search.lookup some_below count picked each alphabet septet_of extension pair_septet header_octets same_page septets_of unpadded septets packed
    page_octets bad_parameter foreign ends_in_cr written_page block blocks cut.written_blocks bad plan_number holds lowest_slot has_page new place order tells
    read planned_told new_at octets_of_all descriptions new_bits used_part padded write is_wanted is_held tells_of reads decide
edges = refl

pub pair_edges_written : PairEdgesWritten
unfolding search.lookup alphabet septet_of extension pair_septet septets_of unpadded bad_parameter foreign ends_in_cr written_page
pair_edges_written = refl

pub pair_edges_read : PairEdgesRead
unfolding whole_blocks value digits search.lookup alphabet code_point septet_of extension pair_point pair_septet header_octets septets_of unpadded septets packed
    page_octets bad_parameter foreign ends_in_cr written_page whole_of decoded left_with trimmed shown_with reading_with
pair_edges_read = refl

pub blank_edges : BlankEdges
unfolding whole_blocks value digits search.lookup alphabet code_point septet_of extension pair_point pair_septet header_octets septets_of unpadded septets packed
    page_octets bad_parameter foreign ends_in_cr written_page whole_of decoded left_with trimmed shown_with reading_with
blank_edges = refl
