-- The smallest sheet and its neighbours (RULES 11), and what is answered to each. Assumes nothing.
--   m_record, .., loop_record  a record of sheet S, as a function of what its neighbours change
--   sheet_s                   sheet S, 518 bytes
--   changed k c bytes         S with these bytes in record k, from column c on; with_mesh: with another M
--   land_sheet                S as a sheet of layer 5 with land on its whole ground, by the texts of its codes (RULES 11.3)
--   bare_sheet                 S as an unstructured layer (RULES 11.4); bare_five: in layer 5, by the text of its left code
--   cases                     the cases of RULES 11.2 to 11.4, each with its answer
--   further                   more files, of each refusal
--   two_meshes, sheet_t, sheet_u accepted files: two meshes; two lines round one area; a lake in an area, with a hole for it
--   two_layers, bare_meshes   accepted files: two layers in one mesh; two meshes with unstructured layers alone
use Rattle.std.specs.Prelude.{List, [], ◌∷◌, ◌++◌, ℕ, zero, suc, ◌+◌, ◌-◌, ◌*◌, ℤ, pos, negsuc, length, take, drop, Option, Some, None}
use Rattle.fields.specs.Place.{put}
use Rattle.fields.specs.Spelling.{spell}
use Rattle.codes.specs.Code.{land_text}
use Rattle.codes.specs.declared.Code.{Code}
use Rattle.records.specs.declared.Kind.{Kind}
use Rattle.records.specs.declared.Kind.TheVariants.{Mesh, Layer, Node, Line, Coordinates, Area, Loop}
use Rattle.records.specs.Writing.{record_bytes}
use Rattle.verdict.specs.Rules.{Verdict, Fine, Broken}

-- ---- the seven records

-- RULES 11.1: all names are 81 40 throughout
abbrev pub wide : ℕ → List ℕ
wide zero = []
wide (suc n) = 0x81 ∷ 0x40 ∷ wide n

-- a record of kind k with the numbers ns and these letters; the numbers that are not listed, and the marks, are 0
unfoldable pub written_as : ℕ → Kind → List ℤ → List ℕ
written_as letters k ns = record_bytes (record { kind = k; numbers = ns; name = wide 20; marks = []; letters = letters })

-- one of a kind that has no letters of its own
unfoldable pub written : Kind → List ℤ → List ℕ
written k ns = written_as 0 k ns

-- RULES 11.1: record 1, M, by its mesh code, layers and records
unfoldable pub m_record : ℕ → ℕ → ℕ → List ℕ
m_record code layers records = written Mesh (pos code ∷ pos layers ∷ pos 1 ∷ pos 1 ∷ pos 1 ∷ pos 0 ∷ pos records ∷ [])

-- RULES 11.1: record 2, H, by its records
unfoldable pub h_record : ℕ → List ℕ
h_record records = written_as 2 Layer (pos 1 ∷ pos 1 ∷ pos 1 ∷ pos 1 ∷ pos 0 ∷ pos records ∷ pos 0 ∷ pos 0 ∷ [])

-- RULES 11.1: record 3, N, by its layer, frame, count and second slot
unfoldable pub n_record : ℕ → ℕ → ℕ → ℤ → List ℕ
n_record layer frame count second = written Node (pos layer ∷ pos 3 ∷ pos 1 ∷ pos 0 ∷ pos 0 ∷ pos frame ∷ pos count ∷ pos 1 ∷ second ∷ [])

-- RULES 11.1: record 4, L, by its left code and area, right code and area
unfoldable pub l_record : ℕ → ℕ → ℕ → ℕ → List ℕ
l_record left_code left right_code right =
    written Line (
    pos 1 ∷ pos 9 ∷ pos 1 ∷ pos 9 ∷ pos 1 ∷ pos 2 ∷ pos 1 ∷ pos 2
    ∷ pos left_code ∷ pos left ∷ pos right_code ∷ pos right ∷ pos 5 ∷ [])

-- RULES 11.1: record 5, coordinates, by the last Y and the X behind it
unfoldable pub points : ℕ → ℕ → List ℕ
points lastY sixthX =
    written Coordinates (
    pos 0 ∷ pos 0 ∷ pos 0 ∷ pos 10000 ∷ pos 10000 ∷ pos 10000 ∷ pos 10000 ∷ pos 0 ∷ pos 0 ∷ pos lastY
    ∷ pos sixthX ∷ [])

-- RULES 11.1: record 6, A, by its lines
unfoldable pub a_record : ℕ → List ℕ
a_record lines = written Area (pos 1 ∷ pos 13101 ∷ pos 1 ∷ pos 5000 ∷ pos 5000 ∷ pos 1 ∷ pos lines ∷ [])

-- RULES 11.1: record 7, loop, by its count and entry
unfoldable pub loop_record : ℕ → ℤ → List ℕ
loop_record count entry = written Loop (pos 1 ∷ pos count ∷ entry ∷ [])

-- ---- the sheets

-- RULES 11.1: sheet S, seven records
unfoldable pub sheet_s : List ℕ
sheet_s =
    m_record 533945 1 6
    ++ (h_record 5
    ++ (n_record 1 1 2 (negsuc 0)
    ++ (l_record 88888 0 13101 1
    ++ (points 0 0
    ++ (a_record 1
    ++ loop_record 1 (pos 1))))))

unfoldable pub changed : ℕ → ℕ → List ℕ → List ℕ
changed k c bytes = put sheet_s (74 * (k - 1) + c) bytes

-- five columns
abbrev pub number : ℕ → List ℕ
number n = spell 5 (pos n)

abbrev pub with_mesh : ℕ → ℕ → ℕ → List ℕ
with_mesh code layers records = changed 1 1 (m_record code layers records)

-- RULES 11.3: the layer code 5
abbrev pub five : List ℕ
five = spell 2 (pos 5)

-- a file with these bytes in record k too
unfoldable pub also : List ℕ → ℕ → ℕ → List ℕ → List ℕ
also file k c bytes = put file (74 * (k - 1) + c) bytes

-- RULES 11.3: layer code 5 in records 2, 3, 4 and 6, node item 1, and the texts of left code, right code and A's code
unfoldable pub land_sheet : List ℕ → List ℕ → List ℕ → List ℕ
land_sheet left right own =
    also (also (also (also (also (also (changed 2 3 five) 3 3 (five ++ spell 2 (pos 1))) 4 3 five) 4 30 left) 4 40 right) 6 3 five) 6 5 own

-- RULES 11.4: records 1 to 5 of S, with H1, no areas, and 0 for both codes and both area numbers of the L
unfoldable pub bare_sheet : List ℕ
bare_sheet =
    written Mesh (pos 533945 ∷ pos 1 ∷ pos 1 ∷ pos 1 ∷ pos 0 ∷ pos 0 ∷ pos 4 ∷ [])
    ++ (written_as 1 Layer (pos 1 ∷ pos 1 ∷ pos 1 ∷ pos 0 ∷ pos 0 ∷ pos 3 ∷ pos 0 ∷ pos 0 ∷ [])
    ++ (n_record 1 1 2 (negsuc 0)
    ++ (l_record 0 0 0 0
    ++ points 0 0)))

-- RULES 11.4: the same in layer 5: the layer code in records 2, 3 and 4, node item 1, and the text of the left code
unfoldable pub bare_five : List ℕ → List ℕ
bare_five left = also (also (also (also bare_sheet 2 3 five) 3 3 (five ++ spell 2 (pos 1))) 4 3 five) 4 30 left

-- five zeros, and three at the end
abbrev pub five_zeros : List ℕ
five_zeros = 48 ∷ 48 ∷ 48 ∷ 48 ∷ 48 ∷ []

abbrev pub three_zeros : List ℕ
three_zeros = 32 ∷ 32 ∷ 48 ∷ 48 ∷ 48 ∷ []

-- RULES 11.2: a sheet and the judge's verdict, where the lent buffers are long enough; or a field of width 5 and what it says, as a number or
-- as a code
pub data Case : Type 0 where
  sheet : List ℕ → Verdict → Case
  field : List ℕ → Option ℤ → Case
  code_field : List ℕ → Option Code → Case

-- RULES 11.2 to 11.4: S, then S changed in one place, then fields of five columns, in that order; then land; then an unstructured layer
unfoldable pub cases : List Case
cases =
    sheet sheet_s Fine  -- S is accepted
    ∷ sheet (with_mesh 533945 1 7) (Broken 10 1 52)  -- M's records 7: 10 at 1,52
    ∷ sheet (changed 3 1 (n_record 1 0 2 (negsuc 0))) (Broken 6 3 22)  -- frame 0: 6 at 3,22
    ∷ sheet (changed 3 1 (n_record 1 1 1 (pos 0))) (Broken 14 4 24)  -- node count 1, second slot 0: 14 at 4,24
    ∷ sheet (changed 5 1 (points 1 0)) (Broken 12 5 41)  -- last point (0,1): 12 at 5,41
    ∷ sheet (changed 5 1 (points 0 7)) (Broken 6 5 51)  -- sixth X 7: 6 at 5,51
    ∷ sheet (changed 7 1 (loop_record 1 (negsuc 0))) (Broken 16 7 1)  -- loop entry -1: 16 at 7,1
    ∷ sheet (changed 4 1 (l_record 13101 1 88888 0)) (Broken 17 7 10)  -- left and right exchanged: 17 at 7,10
    ∷ sheet (take (74 * 6) sheet_s) (Broken 4 7 1)  -- without record 7: 4 at 7,1
    ∷ sheet (changed 2 2 (49 ∷ [])) (Broken 6 2 15)  -- H1: 6 at 2,15
    ∷ sheet (with_mesh 533985 1 6) (Broken 6 1 3)  -- mesh 533985: 6 at 1,3
    ∷ field (32 ∷ 32 ∷ 32 ∷ 45 ∷ 49 ∷ []) (Some (negsuc 0))  -- width 5: "   -1" is -1
    ∷ field (48 ∷ 48 ∷ 48 ∷ 48 ∷ 49 ∷ []) None  -- "00001" is 5
    ∷ field (32 ∷ 32 ∷ 32 ∷ 45 ∷ 48 ∷ []) None  -- "   -0" is 5
    ∷ field (32 ∷ 32 ∷ 32 ∷ 32 ∷ 32 ∷ []) None  -- five spaces are 5
    ∷ code_field land_text (Some (record { value = pos 0; mark = 1 }))  -- as a code " 0000" is 0 with mark 1
    ∷ code_field (number 0) (Some (record { value = pos 0; mark = 0 }))  -- "    0" is 0 with mark 0
    ∷ code_field five_zeros None  -- "00000" is 5
    ∷ code_field three_zeros None  -- "  000" is 5
    ∷ sheet (land_sheet (number 88888) land_text (number 0)) Fine  -- right code " 0000", A's code "    0"
    ∷ sheet (land_sheet (number 88888) (number 0) land_text) Fine  -- the other way round
    ∷ sheet (land_sheet (number 88888) five_zeros (number 0)) (Broken 5 4 40)  -- right code "00000": 5 at 4,40
    ∷ sheet (land_sheet (number 88888) land_text three_zeros) (Broken 5 6 5)  -- A's code "  000": 5 at 6,5
    ∷ sheet (land_sheet land_text land_text (number 0)) (Broken 6 4 35)  -- left code " 0000", left area 0: 6 at 4,35
    ∷ sheet (changed 4 40 land_text) (Broken 5 4 40)  -- S itself, of layer 1, with right code " 0000": 5 at 4,40
    ∷ sheet bare_sheet Fine  -- S as an unstructured layer
    ∷ sheet (bare_five land_text) Fine  -- the same in layer 5, left code " 0000"
    ∷ sheet (also bare_sheet 2 2 (50 ∷ [])) (Broken 6 4 30)  -- H2: 6 at 4,30
    ∷ sheet (also bare_sheet 2 2 (51 ∷ [])) (Broken 3 2 1)  -- H3: 3 at 2,1
    ∷ sheet (also bare_sheet 2 15 (number 1)) (Broken 6 2 15)  -- H's areas 1: 6 at 2,15
    ∷ sheet (also bare_sheet 4 30 (number 88888)) (Broken 6 4 30)  -- left code 88888: 6 at 4,30
    ∷ sheet (also bare_sheet 4 35 (number 1)) (Broken 6 4 35)  -- left area 1: 6 at 4,35
    ∷ sheet (also bare_sheet 4 40 (number 13101)) (Broken 6 4 40)  -- right code 13101: 6 at 4,40
    ∷ sheet (also bare_sheet 4 45 (number 1)) (Broken 6 4 45)  -- right area 1: 6 at 4,45
    ∷ sheet (also bare_sheet 3 1 (n_record 1 1 1 (pos 0))) (Broken 14 4 24)  -- node count 1, second slot 0: 14 at 4,24
    ∷ sheet (also bare_sheet 1 42 (number 1)) (Broken 10 1 42)  -- M's areas 1: 10 at 1,42
    ∷ []

-- ---- further files

-- RULES 2.2: meshes follow one another, codes rise strictly, the first four digits are the same
unfoldable pub two_meshes : List ℕ
two_meshes = sheet_s ++ with_mesh 533946 1 6

-- RULES 1.7: layers 1 and 5 in one mesh, those of two sheets, the one structured and the other not
unfoldable pub two_layers : List ℕ → List ℕ → List ℕ
two_layers one other = written Mesh (pos 533945 ∷ pos 2 ∷ pos 2 ∷ pos 2 ∷ pos 1 ∷ pos 0 ∷ pos 10 ∷ []) ++ (drop 74 one ++ drop 74 other)

unfoldable pub land_layer : List ℕ
land_layer = land_sheet (number 88888) land_text (number 0)

-- two meshes, with unstructured layers alone
unfoldable pub bare_meshes : List ℕ
bare_meshes = bare_sheet ++ also (bare_five (number 0)) 1 3 (spell 6 (pos 533946))

-- a node: serial, X, Y, frame, and its two entries
unfoldable pub node : ℕ → ℕ → ℕ → ℕ → ℤ → ℤ → List ℕ
node serial x y frame first second = written Node (pos 1 ∷ pos 3 ∷ pos serial ∷ pos x ∷ pos y ∷ pos frame ∷ pos 2 ∷ first ∷ second ∷ [])

-- a line of the layer's: item, serial, start node, end node, their link, left code and area, right code and area, points
unfoldable pub line : ℕ → ℕ → ℕ → ℕ → ℕ → ℕ → ℕ → ℕ → ℕ → ℕ → List ℕ
line item serial start end link left_code left right_code right count =
    written Line (
    pos 1 ∷ pos item ∷ pos serial ∷ pos item ∷ pos start ∷ pos link ∷ pos end ∷ pos link
    ∷ pos left_code ∷ pos left ∷ pos right_code ∷ pos right ∷ pos count ∷ [])

abbrev pub numbers : List ℕ → List ℤ
numbers [] = []
numbers (n ∷ ns) = pos n ∷ numbers ns

unfoldable pub coordinates : List ℕ → List ℕ
coordinates ns = written Coordinates (numbers ns)

-- an area: code, serial, loops, lines
unfoldable pub area : ℕ → ℕ → ℕ → ℕ → List ℕ
area code serial loops lines = written Area (pos 1 ∷ pos code ∷ pos serial ∷ pos 5000 ∷ pos 5000 ∷ pos loops ∷ pos lines ∷ [])

-- a loop record: serial, and its entries
unfoldable pub loop : ℤ → List ℤ → List ℕ
loop serial es = written Loop (serial ∷ pos (length es) ∷ es)

-- a mesh and its layer: nodes, lines, areas, and the records behind the H
unfoldable pub heads : ℕ → ℕ → ℕ → ℕ → List ℕ
heads nodes lines areas behind =
    written Mesh (pos 533945 ∷ pos 1 ∷ pos nodes ∷ pos lines ∷ pos areas ∷ pos 0 ∷ pos (1 + behind) ∷ [])
    ++ written_as 2 Layer (pos 1 ∷ pos nodes ∷ pos lines ∷ pos areas ∷ pos 0 ∷ pos behind ∷ pos 0 ∷ pos 0 ∷ [])

-- sheet T: the frame is cut at two corners into two lines, and the area's loop has the entries es
unfoldable pub sheet_t : List ℤ → List ℕ
sheet_t es =
    heads 2 2 1 8
    ++ (node 1 0 0 1 (pos 1) (negsuc 1)
    ++ (node 2 10000 10000 1 (pos 2) (negsuc 0)
    ++ (line 9 1 1 2 2 88888 0 13101 1 3
    ++ (coordinates (0 ∷ 0 ∷ 0 ∷ 10000 ∷ 10000 ∷ 10000 ∷ [])
    ++ (line 9 2 2 1 2 88888 0 13101 1 3
    ++ (coordinates (10000 ∷ 10000 ∷ 10000 ∷ 0 ∷ 0 ∷ 0 ∷ [])
    ++ (area 13101 1 1 (length es)
    ++ loop (pos 1) es)))))))

-- the frame as one line with area 1 on its right, and a shore within it with area 1 on its left; the shore's right area
unfoldable pub shore : ℕ → List ℕ
shore right =
    node 1 0 0 1 (pos 1) (negsuc 0)
    ++ (node 2 1000 1000 0 (pos 2) (negsuc 1)
    ++ (line 9 1 1 1 2 88888 0 13101 1 5
    ++ (coordinates (0 ∷ 0 ∷ 0 ∷ 10000 ∷ 10000 ∷ 10000 ∷ 10000 ∷ 0 ∷ 0 ∷ 0 ∷ [])
    ++ (line 1 2 2 2 0 13101 1 13102 right 5
    ++ coordinates (1000 ∷ 1000 ∷ 1000 ∷ 2000 ∷ 2000 ∷ 2000 ∷ 2000 ∷ 1000 ∷ 1000 ∷ 1000 ∷ [])))))

-- sheet U: an area with a hole, and the area in the hole, with the entries of the hole's loop and of the inner area's
unfoldable pub sheet_u : ℕ → List ℤ → List ℤ → List ℕ
sheet_u right hole inner =
    heads 2 2 2 11
    ++ (shore right
    ++ (area 13101 1 2 (1 + length hole)
    ++ (loop (pos 1) (pos 1 ∷ [])
    ++ (loop (negsuc 1) hole
    ++ (area 13102 2 1 (length inner)
    ++ loop (pos 1) inner)))))

-- U without its hole: the ground in it is counted double
unfoldable pub without_hole : List ℕ
without_hole =
    heads 2 2 2 10
    ++ (shore 2
    ++ (area 13101 1 1 1
    ++ (loop (pos 1) (pos 1 ∷ [])
    ++ (area 13102 2 1 1
    ++ loop (pos 1) (pos 2 ∷ [])))))

-- more files, by number; the buffers are long enough
unfoldable pub further : List (List ℕ × Verdict)
further =
    (two_meshes, Fine)
    ∷ (two_layers bare_sheet land_layer, Fine)  -- H1, then H2
    ∷ (two_layers sheet_s (bare_five (number 0)), Fine)  -- H2, then H1
    ∷ (bare_meshes, Fine)  -- H1 alone
    ∷ (two_layers bare_sheet (bare_five (number 0)), Broken 10 1 42)  -- H1 twice, where the M says an area
    ∷ (two_layers bare_sheet sheet_s, Broken 8 6 3)  -- H1 and H2 with the same layer code
    ∷ (sheet_t (pos 1 ∷ pos 2 ∷ []), Fine)
    ∷ (sheet_u 2 (negsuc 1 ∷ []) (pos 2 ∷ []), Fine)
    ∷ ([], Broken 1 1 1)  -- no byte
    ∷ (sheet_s ++ (32 ∷ []), Broken 1 8 1)  -- one byte more
    ∷ (changed 3 74 (32 ∷ []), Broken 2 3 74)  -- byte 74 of record 3 a space
    ∷ (changed 4 1 (65 ∷ []), Broken 3 4 1)  -- "A " where an L is due
    ∷ (with_mesh 533945 2 6, Broken 4 8 1)  -- layers 2: a second H is due
    ∷ (changed 3 7 (48 ∷ 48 ∷ 48 ∷ 48 ∷ 49 ∷ []), Broken 5 3 7)  -- the node's serial as "00001"
    ∷ (changed 7 1 (loop_record 2 (pos 1)), Broken 6 7 15)  -- loop count 2, slot two 0
    ∷ (sheet_s ++ with_mesh 533939 1 6, Broken 6 8 3)  -- a mesh code that is not permitted (6) and below the last (8)
    ∷ (changed 3 1 (n_record 5 1 2 (negsuc 0)), Broken 8 3 3)  -- the node's layer code 5
    ∷ (sheet_s ++ sheet_s, Broken 8 8 3)  -- the same mesh code again
    ∷ (changed 2 1 (h_record 6), Broken 10 2 25)  -- H records 6: the H itself would be counted
    ∷ (changed 6 1 (a_record 2), Broken 10 6 29)  -- A lines 2
    ∷ (changed 3 26 (number 2), Broken 11 3 26)  -- a node entry that names no line
    ∷ (changed 4 18 (number 2), Broken 11 4 18)  -- start node 2: the node's own check waits
    ∷ (changed 4 24 (number 0), Broken 11 4 24)  -- end node 0
    ∷ (changed 4 45 (number 2), Broken 11 4 45)  -- right area 2
    ∷ (changed 7 10 (number 2), Broken 11 7 10)  -- a loop entry that names no line
    ∷ (changed 4 23 (48 ∷ []), Broken 12 4 23)  -- link 0 on a frame node
    ∷ (changed 4 40 (number 13102), Broken 12 4 40)  -- a code unlike its area's
    ∷ (changed 5 1 (number 1), Broken 12 5 1)  -- the first point (1,0)
    ∷ (changed 3 31 (number 1), Broken 13 3 31)  -- the same entry twice
    ∷ (sheet_u 2 (pos 1 ∷ negsuc 1 ∷ negsuc 1 ∷ negsuc 0 ∷ []) (pos 2 ∷ []), Broken 13 11 10)  -- an entry of the area's first loop again in its second
    ∷ (sheet_t (pos 1 ∷ pos 1 ∷ []), Broken 15 10 10)  -- line 1 doesn't begin where line 1 ends
    ∷ (sheet_u 1 (negsuc 1 ∷ []) (pos 2 ∷ []), Broken 12 7 40)  -- the shore's right area has another code
    ∷ (sheet_u 2 (negsuc 1 ∷ []) (pos 1 ∷ []), Broken 17 13 10)  -- the frame in the inner area, which is not its right
    ∷ (without_hole, Broken 18 7 35)  -- the shore's left area doesn't list it
    ∷ (also (with_mesh 533945 1 7) 2 25 (number 6), Broken 10 1 52)  -- S, where M and H count themselves
    ∷ (with_mesh 533945 1 5, Broken 10 1 52)  -- M records 5: its H would not be counted
    ∷ (sheet_s ++ with_mesh 533946 1 7, Broken 10 8 52)  -- the second M counts itself
    ∷ (heads 0 0 0 0, Fine)  -- an H alone: its records are 0, its M's are 1
    ∷ (also (heads 0 0 0 0) 2 25 (number 1), Broken 10 2 25)  -- an H alone that counts itself
    ∷ []
