-- What is answered to sheet S and its neighbours (RULES 11), computed. Assumes nothing.
use mathlib.Core.List.{List, [], ◌∷◌, map}
use mathlib.Core.Path.{◌≡◌, refl}
use Prim.Native.Nat.{ℕ}
use lib.IntN.{pos, negsuc}
use lib.ListN.{length, replicate}
use Rattle.fields.specs.Place.{is_inside, bytes_at, put}
use Rattle.fields.specs.Number.{after_blanks, digits_of, plain_of, signed_of, number_of, number_at}
use Rattle.fields.specs.Spelling.{columns, spell}
use Rattle.fields.specs.Text.{is_name, is_blanks, text_at}
use Rattle.records.specs.Layout.{layout_of}
use Rattle.std.specs.Prelude.{Option, ℤ}
use Rattle.codes.specs.declared.Code as codes
use Rattle.codes.specs.Code.{land_text, is_land, land_at, code_at, spell_code}
use Rattle.records.specs.Reading.{head_letters, in_layer_five, code_in, fault_of}
use Rattle.records.specs.Writing.{second_letter, field_text, text_of, record_bytes}
use Rattle.records.specs.View.{record_of, number_in}
use Rattle.records.specs.Columns.{slot_start}
use Rattle.verdict.specs.Rules.{Verdict, first_broken, block, rows, spread}
use Rattle.permitted.specs.Permitted.{within, is_mesh_code, follows_mesh, is_layer_code, follows_layer, is_date, is_node_item, is_frame}
use Rattle.permitted.specs.Permitted.{is_line_item, is_line_kind, is_link, is_code, is_side, of_areas, is_area_code, is_slot, is_point, is_next, is_loop_serial}
use Rattle.asks.specs.Asks.{from, mesh_asks, layer_asks, node_asks, line_asks, coordinate_asks, area_asks, loop_asks}
use Rattle.rules.specs.Checks.{asks_of, asked_of, form_checks, value_checks, along, checks_of}
use Rattle.walk.specs.States.{size_in, due_of, next_of, state_at, layer_words, counts_at}
use Rattle.walk.specs.Stages.{records_of, end_checks, length_checks, stage_one, last_checks, stage_two, walked_of, need_of, words_of, room_rule, early}
use Rattle.walk.specs.Table.{gather, table_of}
use Rattle.totals.specs.Totals.{sums_from, sums_behind, mesh_totals, layer_totals, area_totals, stage_three}
use Rattle.layers.specs.Naming.{words_before, layer_in, names, names_line, node_of, line_of, area_of}
use Rattle.links.specs.Links.{equal, entry_is, some, node_entry, first_node, meets, repeats_node, node_slot, node_checks, listed, link_fits, line_end_checks}
use Rattle.links.specs.Links.{side_checks, line_checks, at_node, first_point_checks, last_point_checks, point_checks, loop_entry, entry_checks, stage_four}
use Rattle.layers.specs.Passing.{bases_of, layer_at}
use Rattle.measures.specs.Sum.{sum, up_to}
use Rattle.measures.specs.Measures.{steps, line_measure, loop_measure, area_measure}
use Rattle.measures.specs.Points.{coordinate_in, pair_by, point_by, point_count, first_of, points_by, measure_by}
use Rattle.entries.specs.Entries.{slot_of, entries_to, records_for, count_at, loops_at, records_to, slots_of, loop_at, loops_to}
use Rattle.entries.specs.Loops.{measure_of, loop_measure_in, area_measure_in}
use Rattle.loops.specs.Loops.{repeats_area, last_node, entry_before, joins, area_on_hand, loop_slot}
use Rattle.loops.specs.Loops.{winds, wind_checks, first_record, area_record, loop_checks, stage_five}
use Rattle.sides.specs.Sides.{lists, side_listed, list_checks, stage_six}
use Rattle.ground.specs.Layers.{area_of_layer, areas_sum, left_area_of, right_area_of, outside_sum, measures_to}
use Rattle.judge.specs.Rulebook.{late, rules_of, call_verdict, verdict_of}
use Rattle.judge.specs.Outcomes.{outcome_behind, table_behind, outcome_of, table_after, measures_of, measures_after, sums_of}
use Rattle.judge.specs.Outcomes.{outcome_of_all, pairs_to, all_sums_of, sums_after}
use Rattle.judge.specs.declared.Outcome.{Outcome}
use Rattle.sheets.specs.Sheets.{written_as, written, m_record, h_record, n_record, l_record, points, a_record, loop_record, sheet_s, changed, with_mesh}
use Rattle.sheets.specs.Sheets.{Case, sheet, field, code_field, number, also, land_sheet, bare_sheet, bare_five, cases}
use Rattle.sheets.specs.Sheets.{two_meshes, two_layers, land_layer, bare_meshes}
use Rattle.sheets.specs.Sheets.{node, line, coordinates, area, loop, heads, sheet_t, shore, sheet_u, without_hole, further}

-- what has to compute, under four names: a line that names one of them opens all that its own line names

-- how a sheet is written
unfoldable pub writing : Unit {0}
unfolding columns spell spell_code layout_of second_letter field_text text_of record_bytes written_as written m_record h_record n_record l_record points a_record loop_record
    put sheet_s changed also land_sheet bare_sheet bare_five
writing = tt

-- how a file is walked
unfoldable pub walking : Unit {0}
unfolding is_inside bytes_at after_blanks digits_of plain_of signed_of number_of number_at record_of head_letters size_in due_of next_of state_at layer_words counts_at
    records_of
walking = tt

-- the rules
judging : Unit {0}
unfolding walking is_land land_at code_at in_layer_five code_in is_name is_blanks text_at layout_of fault_of within is_mesh_code follows_mesh is_layer_code
    follows_layer is_date is_node_item is_frame is_line_item
    is_line_kind is_link is_code is_side of_areas is_area_code is_slot is_point is_next is_loop_serial from mesh_asks layer_asks node_asks line_asks coordinate_asks
    area_asks loop_asks asks_of asked_of form_checks value_checks along checks_of first_broken block rows end_checks length_checks stage_one last_checks
    stage_two words_of room_rule early sums_from sums_behind mesh_totals layer_totals area_totals stage_three gather table_of number_in slot_start spread words_before
    layer_in names names_line node_of line_of area_of equal entry_is some node_entry first_node meets repeats_node node_slot node_checks listed link_fits
    line_end_checks side_checks line_checks at_node first_point_checks last_point_checks point_checks loop_entry entry_checks layer_at stage_four
    coordinate_in pair_by point_by point_count first_of points_by measure_by sum steps line_measure loop_measure slot_of entries_to records_for count_at
    loops_at records_to slots_of loop_at measure_of loop_measure_in repeats_area last_node entry_before joins area_on_hand loop_slot winds wind_checks
    first_record area_record loop_checks stage_five lists side_listed list_checks stage_six bases_of late rules_of call_verdict
judging = tt

-- the figures
measuring : Unit {0}
unfolding area_measure loops_to area_measure_in up_to area_of_layer areas_sum left_area_of right_area_of
    outside_sum measures_to measures_of measures_after sums_of pairs_to all_sums_of sums_after
measuring = tt

-- a refusal without a place, and the need that it tells
abbrev refused_with : ℕ → ℕ → Outcome
refused_with n need = record { number = n; place = 0; column = 0; meshes = 0; layers = 0; nodes = 0; lines = 0; areas = 0; records = 0; need = need }

-- what is answered to a case, and what stands beside it
pub data Answer : Type 0 where
  judged : Verdict → Answer
  said : Option ℤ → Answer
  coded : Option codes.Code → Answer

abbrev pub found : Case → Answer
found (sheet file v) = judged (verdict_of file 7 1)
found (field text a) = said (number_at text 1 5)
found (code_field text a) = coded (code_at text 1 5)

abbrev pub wanted : Case → Answer
wanted (sheet file v) = judged v
wanted (field text a) = said a
wanted (code_field text a) = coded a

-- RULES 11.2 to 11.4: the cases
pub cases_hold : map found cases ≡ map wanted cases
unfolding writing judging cases
cases_hold = refl

-- each further file has the verdict that stands beside it
pub further_judged : map (λ (c : List ℕ × Verdict). verdict_of c.0 14 2) further ≡ map (λ (c : List ℕ × Verdict). c.1) further
unfolding writing judging further two_meshes two_layers land_layer bare_meshes node line coordinates area loop heads sheet_t shore sheet_u without_hole
further_judged = refl

-- RULES 11.1: the table of S is 2 1 1 1 2 4 6; the table of two meshes
pub sheet_table :
    (length sheet_s ≡ 518)
    × (need_of sheet_s ≡ 7)
    × (table_of sheet_s ≡ 2 ∷ 1 ∷ 1 ∷ 1 ∷ 2 ∷ 4 ∷ 6 ∷ [])
    × (table_of two_meshes ≡ 2 ∷ 1 ∷ 1 ∷ 1 ∷ 2 ∷ 9 ∷ 1 ∷ 1 ∷ 1 ∷ 2 ∷ 4 ∷ 11 ∷ 6 ∷ 13 ∷ [])
unfolding writing judging walked_of need_of two_meshes
sheet_table = (refl, refl, refl, refl)

-- RULES 9.1: S is answered with its counts; with 9 and the need where the table is too short, with 19 where there is no place for the measure; a
-- refused call counts nothing
pub sheet_outcomes :
    (outcome_of sheet_s 7 1 ≡ record { number = 0; place = 0; column = 0; meshes = 1; layers = 1; nodes = 1; lines = 1; areas = 1; records = 7; need = 0 })
    × (outcome_of sheet_s 6 1 ≡ refused_with 9 7)
    × (outcome_of sheet_s 7 0 ≡ refused_with 19 0)
unfolding writing judging walked_of need_of outcome_behind
sheet_outcomes = (refl, refl, refl)

-- RULES 8.3: refused with 1 to 9, all words are as they were; refused later, or accepted, the table stands in front, the rest is as it was
pub sheet_words :
    (table_after sheet_s 1 (replicate 6 99) ≡ replicate 6 99)
    × (table_after sheet_s 1 (replicate 8 99) ≡ 2 ∷ 1 ∷ 1 ∷ 1 ∷ 2 ∷ 4 ∷ 6 ∷ 99 ∷ [])
    × (table_after sheet_s 0 (replicate 8 99) ≡ 2 ∷ 1 ∷ 1 ∷ 1 ∷ 2 ∷ 4 ∷ 6 ∷ 99 ∷ [])
    × (table_after (with_mesh 533945 1 7) 1 (replicate 8 99) ≡ 2 ∷ 1 ∷ 1 ∷ 1 ∷ 2 ∷ 4 ∷ 6 ∷ 99 ∷ [])
unfolding writing judging table_behind
sheet_words = (refl, refl, refl, refl)

-- RULES 11.1, 8.4: the area of S measures 200000000; measures stand in front, on acceptance only; an area with a hole, and the one in it
pub sheet_measures :
    (measures_after sheet_s 7 (pos 5 ∷ pos 6 ∷ []) ≡ pos 200000000 ∷ pos 6 ∷ [])
    × (measures_after sheet_s 6 (pos 5 ∷ pos 6 ∷ []) ≡ pos 5 ∷ pos 6 ∷ [])
    × (measures_of (sheet_u 2 (negsuc 1 ∷ []) (pos 2 ∷ [])) ≡ pos 198000000 ∷ pos 2000000 ∷ [])
unfolding writing judging measuring node line coordinates area loop heads shore sheet_u
sheet_measures = (refl, refl, refl)

-- RULES 11.1, 9.2: both sums of S are as much; 22 where there is no such layer, both sums 0 if refused; no ground is lost in a hole
pub sheet_sums :
    (sums_of sheet_s 7 1 ≡ record { number = 0; place = 0; column = 0; areas = pos 200000000; outside = pos 200000000 })
    × (sums_of sheet_s 7 0 ≡ record { number = 22; place = 0; column = 0; areas = pos 0; outside = pos 0 })
    × (sums_of sheet_s 7 2 ≡ record { number = 22; place = 0; column = 0; areas = pos 0; outside = pos 0 })
    × (sums_of sheet_s 6 1 ≡ record { number = 9; place = 0; column = 0; areas = pos 0; outside = pos 0 })
    × (sums_of (sheet_u 2 (negsuc 1 ∷ []) (pos 2 ∷ [])) 9 1 ≡ record { number = 0; place = 0; column = 0; areas = pos 200000000; outside = pos 200000000 })
unfolding writing judging measuring node line coordinates area loop heads shore sheet_u
sheet_sums = (refl, refl, refl, refl, refl)

-- RULES 11.3: a sheet of land has the table, the measure and the sums of S
pub land_figures :
    (table_of (land_sheet (number 88888) land_text (number 0)) ≡ table_of sheet_s)
    × (measures_of (land_sheet (number 88888) land_text (number 0)) ≡ measures_of sheet_s)
    × (sums_of (land_sheet (number 88888) land_text (number 0)) 7 1 ≡ sums_of sheet_s 7 1)
unfolding writing judging measuring
land_figures = (refl, refl, refl)

-- RULES 11.4: the need, the table, no measures and the sums of S as an unstructured layer; tables and sums where both are in one mesh
pub bare_figures :
    (need_of bare_sheet ≡ 6)
    × (table_of bare_sheet ≡ 2 ∷ 1 ∷ 1 ∷ 0 ∷ 1 ∷ 4 ∷ [])
    × (measures_of bare_sheet ≡ [])
    × (sums_of bare_sheet 6 1 ≡ record { number = 0; place = 0; column = 0; areas = pos 0; outside = pos 0 })
    × (table_of (two_layers bare_sheet land_layer) ≡ 2 ∷ 1 ∷ 1 ∷ 0 ∷ 1 ∷ 6 ∷ 1 ∷ 1 ∷ 1 ∷ 2 ∷ 4 ∷ 8 ∷ 10 ∷ [])
    × (all_sums_of (two_layers bare_sheet land_layer) ≡ pos 0 ∷ pos 0 ∷ pos 200000000 ∷ pos 200000000 ∷ [])
    × (table_of (two_layers sheet_s (bare_five (number 0))) ≡ 2 ∷ 1 ∷ 1 ∷ 1 ∷ 2 ∷ 8 ∷ 1 ∷ 1 ∷ 0 ∷ 1 ∷ 4 ∷ 10 ∷ 6 ∷ [])
    × (all_sums_of (two_layers sheet_s (bare_five (number 0))) ≡ pos 200000000 ∷ pos 200000000 ∷ pos 0 ∷ pos 0 ∷ [])
unfolding writing judging measuring walked_of need_of two_layers land_layer
bare_figures = (refl, refl, refl, refl, refl, refl, refl, refl)

-- RULES 11.1, 9.11, 8.5: all sums of S are its one layer's two; 48 with one place, and a refused call leaves the sums; two pairs of two meshes
pub sheet_all_sums :
    (sums_after sheet_s 7 (pos 5 ∷ pos 6 ∷ pos 7 ∷ []) ≡ pos 200000000 ∷ pos 200000000 ∷ pos 7 ∷ [])
    × (outcome_of_all sheet_s 7 1 ≡ refused_with 48 0)
    × (sums_after sheet_s 7 (pos 5 ∷ []) ≡ pos 5 ∷ [])
    × (all_sums_of two_meshes ≡ pos 200000000 ∷ pos 200000000 ∷ pos 200000000 ∷ pos 200000000 ∷ [])
unfolding writing judging measuring walked_of need_of outcome_behind two_meshes
sheet_all_sums = (refl, refl, refl, refl)
