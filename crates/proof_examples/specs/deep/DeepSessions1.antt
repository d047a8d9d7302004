-- Written by tools/vectors.py. Sections and requests of oracle/answers.cases at the limits of depth, each beside the answers.
-- That they are equal is `deep_sessions1_hold` of proofs/DeepSessions1.
use Rattle.std.specs.Prelude.{true, List, [], ◌∷◌}
use Rattle.spec_bytes.specs.text.Text.{ascii}
use Rattle.spec_c_dumper.specs.rules.Machine.{one}
use Rattle.proof_examples.specs.vectors.Base.{param, Vector, session}
use Rattle.spec_c_dumper.specs.rules.Types.{Void, Int, Array, Typedef, FuncProto}

abbrev pub deep_sessions1 : List Vector
deep_sessions1 =
    session 4 true  -- 1-3452-2
    (Void ∷ Int (ascii "x") 32 ∷ FuncProto 0 (param "y" 1 ∷ []) ∷ FuncProto 0 (param "y" 2 ∷ []) ∷ FuncProto 0 (param "y" 3 ∷ [])
    ∷ FuncProto 0 (param "y" 4 ∷ []) ∷ FuncProto 0 (param "y" 5 ∷ []) ∷ FuncProto 0 (param "y" 6 ∷ []) ∷ FuncProto 0 (param "y" 7 ∷ [])
    ∷ FuncProto 0 (param "y" 8 ∷ []) ∷ FuncProto 0 (param "y" 9 ∷ []) ∷ FuncProto 0 (param "y" 10 ∷ []) ∷ FuncProto 0 (param "y" 11 ∷ [])
    ∷ FuncProto 0 (param "y" 12 ∷ []) ∷ FuncProto 0 (param "y" 13 ∷ []) ∷ FuncProto 0 (param "y" 14 ∷ []) ∷ FuncProto 0 (param "y" 15 ∷ [])
    ∷ FuncProto 0 (param "y" 16 ∷ []) ∷ FuncProto 0 (param "y" 17 ∷ []) ∷ FuncProto 0 (param "y" 18 ∷ []) ∷ FuncProto 0 (param "y" 19 ∷ [])
    ∷ FuncProto 0 (param "y" 20 ∷ []) ∷ FuncProto 0 (param "y" 21 ∷ []) ∷ FuncProto 0 (param "y" 22 ∷ []) ∷ FuncProto 0 (param "y" 23 ∷ [])
    ∷ FuncProto 0 (param "y" 24 ∷ []) ∷ FuncProto 0 (param "y" 25 ∷ []) ∷ FuncProto 0 (param "y" 26 ∷ []) ∷ FuncProto 0 (param "y" 27 ∷ [])
    ∷ FuncProto 0 (param "y" 28 ∷ []) ∷ FuncProto 0 (param "y" 29 ∷ []) ∷ FuncProto 0 (param "y" 30 ∷ []) ∷ FuncProto 0 (param "y" 31 ∷ [])
    ∷ FuncProto 0 (param "y" 32 ∷ []) ∷ FuncProto 0 (param "y" 33 ∷ []) ∷ FuncProto 0 (param "y" 34 ∷ []) ∷ FuncProto 0 (param "y" 35 ∷ [])
    ∷ FuncProto 0 (param "y" 36 ∷ []) ∷ FuncProto 0 (param "y" 37 ∷ []) ∷ FuncProto 0 (param "y" 38 ∷ []) ∷ FuncProto 0 (param "y" 39 ∷ [])
    ∷ FuncProto 0 (param "y" 40 ∷ []) ∷ FuncProto 0 (param "y" 41 ∷ []) ∷ FuncProto 0 (param "y" 42 ∷ []) ∷ FuncProto 0 (param "y" 43 ∷ [])
    ∷ FuncProto 0 (param "y" 44 ∷ []) ∷ FuncProto 0 (param "y" 45 ∷ []) ∷ FuncProto 0 (param "y" 46 ∷ []) ∷ FuncProto 0 (param "y" 47 ∷ [])
    ∷ FuncProto 0 (param "y" 48 ∷ []) ∷ FuncProto 0 (param "y" 49 ∷ []) ∷ FuncProto 0 (param "y" 50 ∷ []) ∷ FuncProto 0 (param "y" 51 ∷ [])
    ∷ FuncProto 0 (param "y" 52 ∷ []) ∷ FuncProto 0 (param "y" 53 ∷ []) ∷ FuncProto 0 (param "y" 54 ∷ []) ∷ FuncProto 0 (param "y" 55 ∷ [])
    ∷ FuncProto 0 (param "y" 56 ∷ []) ∷ FuncProto 0 (param "y" 57 ∷ []) ∷ FuncProto 0 (param "y" 58 ∷ []) ∷ FuncProto 0 (param "y" 59 ∷ [])
    ∷ FuncProto 0 (param "y" 60 ∷ []) ∷ FuncProto 0 (param "y" 61 ∷ []) ∷ FuncProto 0 (param "y" 62 ∷ []) ∷ FuncProto 0 (param "y" 63 ∷ [])
    ∷ FuncProto 0 (param "y" 64 ∷ []) ∷ FuncProto 0 (param "y" 65 ∷ []) ∷ FuncProto 0 (param "y" 66 ∷ []) ∷ FuncProto 0 (param "y" 67 ∷ [])
    ∷ FuncProto 0 (param "y" 68 ∷ []) ∷ FuncProto 0 (param "y" 69 ∷ []) ∷ FuncProto 0 (param "y" 70 ∷ []) ∷ FuncProto 0 (param "y" 71 ∷ [])
    ∷ FuncProto 0 (param "y" 72 ∷ []) ∷ FuncProto 0 (param "y" 73 ∷ []) ∷ FuncProto 0 (param "y" 74 ∷ []) ∷ FuncProto 0 (param "y" 75 ∷ [])
    ∷ FuncProto 0 (param "y" 76 ∷ []) ∷ FuncProto 0 (param "y" 77 ∷ []) ∷ FuncProto 0 (param "y" 78 ∷ []) ∷ FuncProto 0 (param "y" 79 ∷ [])
    ∷ FuncProto 0 (param "y" 80 ∷ []) ∷ FuncProto 0 (param "y" 81 ∷ []) ∷ FuncProto 0 (param "y" 82 ∷ []) ∷ FuncProto 0 (param "y" 83 ∷ [])
    ∷ FuncProto 0 (param "y" 84 ∷ []) ∷ FuncProto 0 (param "y" 85 ∷ []) ∷ FuncProto 0 (param "y" 86 ∷ []) ∷ FuncProto 0 (param "y" 87 ∷ [])
    ∷ FuncProto 0 (param "y" 88 ∷ []) ∷ FuncProto 0 (param "y" 89 ∷ []) ∷ FuncProto 0 (param "y" 90 ∷ []) ∷ FuncProto 0 (param "y" 91 ∷ [])
    ∷ FuncProto 0 (param "y" 92 ∷ []) ∷ FuncProto 0 (param "y" 93 ∷ []) ∷ FuncProto 0 (param "y" 94 ∷ []) ∷ FuncProto 0 (param "y" 95 ∷ [])
    ∷ FuncProto 0 (param "y" 96 ∷ []) ∷ FuncProto 0 (param "y" 97 ∷ []) ∷ FuncProto 0 (param "y" 98 ∷ []) ∷ FuncProto 0 (param "y" 99 ∷ [])
    ∷ FuncProto 0 (param "y" 100 ∷ []) ∷ FuncProto 0 (param "y" 101 ∷ []) ∷ FuncProto 0 (param "y" 102 ∷ []) ∷ FuncProto 0 (param "y" 103 ∷ [])
    ∷ FuncProto 0 (param "y" 104 ∷ []) ∷ FuncProto 0 (param "y" 105 ∷ []) ∷ FuncProto 0 (param "y" 106 ∷ []) ∷ FuncProto 0 (param "y" 107 ∷ [])
    ∷ FuncProto 0 (param "y" 108 ∷ []) ∷ FuncProto 0 (param "y" 109 ∷ []) ∷ FuncProto 0 (param "y" 110 ∷ []) ∷ FuncProto 0 (param "y" 111 ∷ [])
    ∷ FuncProto 0 (param "y" 112 ∷ []) ∷ FuncProto 0 (param "y" 113 ∷ []) ∷ FuncProto 0 (param "y" 114 ∷ []) ∷ FuncProto 0 (param "y" 115 ∷ [])
    ∷ FuncProto 0 (param "y" 116 ∷ []) ∷ FuncProto 0 (param "y" 117 ∷ []) ∷ FuncProto 0 (param "y" 118 ∷ []) ∷ FuncProto 0 (param "y" 119 ∷ [])
    ∷ FuncProto 0 (param "y" 120 ∷ []) ∷ FuncProto 0 (param "y" 121 ∷ []) ∷ FuncProto 0 (param "y" 122 ∷ []) ∷ FuncProto 0 (param "y" 123 ∷ [])
    ∷ FuncProto 0 (param "y" 124 ∷ []) ∷ FuncProto 0 (param "y" 125 ∷ []) ∷ FuncProto 0 (param "y" 126 ∷ []) ∷ FuncProto 0 (param "y" 127 ∷ [])
    ∷ FuncProto 0 (param "y" 128 ∷ []) ∷ FuncProto 0 (param "y" 129 ∷ []) ∷ FuncProto 0 (param "y" 130 ∷ []) ∷ FuncProto 0 (param "y" 131 ∷ [])
    ∷ FuncProto 0 (param "y" 132 ∷ []) ∷ FuncProto 0 (param "y" 133 ∷ []) ∷ FuncProto 0 (param "y" 134 ∷ []) ∷ FuncProto 0 (param "y" 135 ∷ [])
    ∷ FuncProto 0 (param "y" 136 ∷ []) ∷ FuncProto 0 (param "y" 137 ∷ []) ∷ FuncProto 0 (param "y" 138 ∷ []) ∷ FuncProto 0 (param "y" 139 ∷ [])
    ∷ FuncProto 0 (param "y" 140 ∷ []) ∷ FuncProto 0 (param "y" 141 ∷ []) ∷ FuncProto 0 (param "y" 142 ∷ []) ∷ FuncProto 0 (param "y" 143 ∷ [])
    ∷ FuncProto 0 (param "y" 144 ∷ []) ∷ FuncProto 0 (param "y" 145 ∷ []) ∷ FuncProto 0 (param "y" 146 ∷ []) ∷ FuncProto 0 (param "y" 147 ∷ [])
    ∷ FuncProto 0 (param "y" 148 ∷ []) ∷ FuncProto 0 (param "y" 149 ∷ []) ∷ FuncProto 0 (param "y" 150 ∷ []) ∷ FuncProto 0 (param "y" 151 ∷ [])
    ∷ FuncProto 0 (param "y" 152 ∷ []) ∷ FuncProto 0 (param "y" 153 ∷ []) ∷ FuncProto 0 (param "y" 154 ∷ []) ∷ FuncProto 0 (param "y" 155 ∷ [])
    ∷ FuncProto 0 (param "y" 156 ∷ []) ∷ FuncProto 0 (param "y" 157 ∷ []) ∷ FuncProto 0 (param "y" 158 ∷ []) ∷ FuncProto 0 (param "y" 159 ∷ [])
    ∷ FuncProto 0 (param "y" 160 ∷ []) ∷ FuncProto 0 (param "y" 161 ∷ []) ∷ FuncProto 0 (param "y" 162 ∷ []) ∷ FuncProto 0 (param "y" 163 ∷ [])
    ∷ FuncProto 0 (param "y" 164 ∷ []) ∷ FuncProto 0 (param "y" 165 ∷ []) ∷ FuncProto 0 (param "y" 166 ∷ []) ∷ FuncProto 0 (param "y" 167 ∷ [])
    ∷ FuncProto 0 (param "y" 168 ∷ []) ∷ FuncProto 0 (param "y" 169 ∷ []) ∷ FuncProto 0 (param "y" 170 ∷ []) ∷ FuncProto 0 (param "y" 171 ∷ [])
    ∷ FuncProto 0 (param "y" 172 ∷ []) ∷ FuncProto 0 (param "y" 173 ∷ []) ∷ FuncProto 0 (param "y" 174 ∷ []) ∷ FuncProto 0 (param "y" 175 ∷ [])
    ∷ FuncProto 0 (param "y" 176 ∷ []) ∷ FuncProto 0 (param "y" 177 ∷ []) ∷ FuncProto 0 (param "y" 178 ∷ []) ∷ FuncProto 0 (param "y" 179 ∷ [])
    ∷ FuncProto 0 (param "y" 180 ∷ []) ∷ FuncProto 0 (param "y" 181 ∷ []) ∷ FuncProto 0 (param "y" 182 ∷ []) ∷ FuncProto 0 (param "y" 183 ∷ [])
    ∷ FuncProto 0 (param "y" 184 ∷ []) ∷ FuncProto 0 (param "y" 185 ∷ []) ∷ FuncProto 0 (param "y" 186 ∷ []) ∷ FuncProto 0 (param "y" 187 ∷ [])
    ∷ FuncProto 0 (param "y" 188 ∷ []) ∷ FuncProto 0 (param "y" 189 ∷ []) ∷ FuncProto 0 (param "y" 190 ∷ []) ∷ FuncProto 0 (param "y" 191 ∷ [])
    ∷ FuncProto 0 (param "y" 192 ∷ []) ∷ FuncProto 0 (param "y" 193 ∷ []) ∷ FuncProto 0 (param "y" 194 ∷ []) ∷ FuncProto 0 (param "y" 195 ∷ [])
    ∷ FuncProto 0 (param "y" 196 ∷ []) ∷ FuncProto 0 (param "y" 197 ∷ []) ∷ FuncProto 0 (param "y" 198 ∷ []) ∷ FuncProto 0 (param "y" 199 ∷ [])
    ∷ FuncProto 0 (param "y" 200 ∷ []) ∷ FuncProto 0 (param "y" 201 ∷ []) ∷ FuncProto 0 (param "y" 202 ∷ []) ∷ FuncProto 0 (param "y" 203 ∷ [])
    ∷ FuncProto 0 (param "y" 204 ∷ []) ∷ FuncProto 0 (param "y" 205 ∷ []) ∷ FuncProto 0 (param "y" 206 ∷ []) ∷ FuncProto 0 (param "y" 207 ∷ [])
    ∷ FuncProto 0 (param "y" 208 ∷ []) ∷ FuncProto 0 (param "y" 209 ∷ []) ∷ FuncProto 0 (param "y" 210 ∷ []) ∷ FuncProto 0 (param "y" 211 ∷ [])
    ∷ FuncProto 0 (param "y" 212 ∷ []) ∷ FuncProto 0 (param "y" 213 ∷ []) ∷ FuncProto 0 (param "y" 214 ∷ []) ∷ FuncProto 0 (param "y" 215 ∷ [])
    ∷ FuncProto 0 (param "y" 216 ∷ []) ∷ FuncProto 0 (param "y" 217 ∷ []) ∷ FuncProto 0 (param "y" 218 ∷ []) ∷ FuncProto 0 (param "y" 219 ∷ [])
    ∷ FuncProto 0 (param "y" 220 ∷ []) ∷ FuncProto 0 (param "y" 221 ∷ []) ∷ FuncProto 0 (param "y" 222 ∷ []) ∷ FuncProto 0 (param "y" 223 ∷ [])
    ∷ FuncProto 0 (param "y" 224 ∷ []) ∷ FuncProto 0 (param "y" 225 ∷ []) ∷ FuncProto 0 (param "y" 226 ∷ []) ∷ FuncProto 0 (param "y" 227 ∷ [])
    ∷ FuncProto 0 (param "y" 228 ∷ []) ∷ FuncProto 0 (param "y" 229 ∷ []) ∷ FuncProto 0 (param "y" 230 ∷ []) ∷ FuncProto 0 (param "y" 231 ∷ [])
    ∷ FuncProto 0 (param "y" 232 ∷ []) ∷ FuncProto 0 (param "y" 233 ∷ []) ∷ FuncProto 0 (param "y" 234 ∷ []) ∷ FuncProto 0 (param "y" 235 ∷ [])
    ∷ FuncProto 0 (param "y" 236 ∷ []) ∷ FuncProto 0 (param "y" 237 ∷ []) ∷ FuncProto 0 (param "y" 238 ∷ []) ∷ FuncProto 0 (param "y" 239 ∷ [])
    ∷ FuncProto 0 (param "y" 240 ∷ []) ∷ FuncProto 0 (param "y" 241 ∷ []) ∷ FuncProto 0 (param "y" 242 ∷ []) ∷ FuncProto 0 (param "y" 243 ∷ [])
    ∷ FuncProto 0 (param "y" 244 ∷ []) ∷ FuncProto 0 (param "y" 245 ∷ []) ∷ FuncProto 0 (param "y" 246 ∷ []) ∷ FuncProto 0 (param "y" 247 ∷ [])
    ∷ FuncProto 0 (param "y" 248 ∷ []) ∷ FuncProto 0 (param "y" 249 ∷ []) ∷ FuncProto 0 (param "y" 250 ∷ []) ∷ FuncProto 0 (param "y" 251 ∷ [])
    ∷ FuncProto 0 (param "y" 252 ∷ []) ∷ FuncProto 0 (param "y" 253 ∷ []) ∷ FuncProto 0 (param "y" 254 ∷ []) ∷ FuncProto 0 (param "y" 255 ∷ [])
    ∷ FuncProto 0 (param "y" 256 ∷ []) ∷ Typedef (ascii "x") 257 ∷ [])
    (one 0 196 ∷ one 7 158 ∷ one 269 122 ∷ one 114 52 ∷ one 343 0 ∷ one 0 237 ∷ one 2088 258 ∷ one 0 241 ∷ [])
    ((0, 0) ∷ (0, 0) ∷ (0, 0) ∷ (0, 0) ∷ (0, 0) ∷ (0, 0) ∷ (12, 0) ∷ (11, 0) ∷ [])
    ""
    ∷ session 4 true  -- 1-4856-2
    (Void ∷ Int (ascii "x") 32 ∷ Array 1 1 ∷ Array 2 1 ∷ Array 3 1 ∷ Array 4 1 ∷ Array 5 1 ∷ Array 6 1 ∷ Array 7 1 ∷ Array 8 1 ∷ Array 9 1 ∷ Array 10 1
    ∷ Array 11 1 ∷ Array 12 1 ∷ Array 13 1 ∷ Array 14 1 ∷ Array 15 1 ∷ Array 16 1 ∷ Array 17 1 ∷ Array 18 1 ∷ Array 19 1 ∷ Array 20 1 ∷ Array 21 1
    ∷ Array 22 1 ∷ Array 23 1 ∷ Array 24 1 ∷ Array 25 1 ∷ Array 26 1 ∷ Array 27 1 ∷ Array 28 1 ∷ Array 29 1 ∷ Array 30 1 ∷ Array 31 1 ∷ Array 32 1
    ∷ Array 33 1 ∷ Array 34 1 ∷ Array 35 1 ∷ Array 36 1 ∷ Array 37 1 ∷ Array 38 1 ∷ Array 39 1 ∷ Array 40 1 ∷ Array 41 1 ∷ Array 42 1 ∷ Array 43 1
    ∷ Array 44 1 ∷ Array 45 1 ∷ Array 46 1 ∷ Array 47 1 ∷ Array 48 1 ∷ Array 49 1 ∷ Array 50 1 ∷ Array 51 1 ∷ Array 52 1 ∷ Array 53 1 ∷ Array 54 1
    ∷ Array 55 1 ∷ Array 56 1 ∷ Array 57 1 ∷ Array 58 1 ∷ Array 59 1 ∷ Array 60 1 ∷ Array 61 1 ∷ Array 62 1 ∷ Array 63 1 ∷ Array 64 1 ∷ Array 65 1
    ∷ Array 66 1 ∷ Array 67 1 ∷ Array 68 1 ∷ Array 69 1 ∷ Array 70 1 ∷ Array 71 1 ∷ Array 72 1 ∷ Array 73 1 ∷ Array 74 1 ∷ Array 75 1 ∷ Array 76 1
    ∷ Array 77 1 ∷ Array 78 1 ∷ Array 79 1 ∷ Array 80 1 ∷ Array 81 1 ∷ Array 82 1 ∷ Array 83 1 ∷ Array 84 1 ∷ Array 85 1 ∷ Array 86 1 ∷ Array 87 1
    ∷ Array 88 1 ∷ Array 89 1 ∷ Array 90 1 ∷ Array 91 1 ∷ Array 92 1 ∷ Array 93 1 ∷ Array 94 1 ∷ Array 95 1 ∷ Array 96 1 ∷ Array 97 1 ∷ Array 98 1
    ∷ Array 99 1 ∷ Array 100 1 ∷ Array 101 1 ∷ Array 102 1 ∷ Array 103 1 ∷ Array 104 1 ∷ Array 105 1 ∷ Array 106 1 ∷ Array 107 1 ∷ Array 108 1
    ∷ Array 109 1 ∷ Array 110 1 ∷ Array 111 1 ∷ Array 112 1 ∷ Array 113 1 ∷ Array 114 1 ∷ Array 115 1 ∷ Array 116 1 ∷ Array 117 1 ∷ Array 118 1
    ∷ Array 119 1 ∷ Array 120 1 ∷ Array 121 1 ∷ Array 122 1 ∷ Array 123 1 ∷ Array 124 1 ∷ Array 125 1 ∷ Array 126 1 ∷ Array 127 1 ∷ Array 128 1
    ∷ Array 129 1 ∷ Array 130 1 ∷ Array 131 1 ∷ Array 132 1 ∷ Array 133 1 ∷ Array 134 1 ∷ Array 135 1 ∷ Array 136 1 ∷ Array 137 1 ∷ Array 138 1
    ∷ Array 139 1 ∷ Array 140 1 ∷ Array 141 1 ∷ Array 142 1 ∷ Array 143 1 ∷ Array 144 1 ∷ Array 145 1 ∷ Array 146 1 ∷ Array 147 1 ∷ Array 148 1
    ∷ Array 149 1 ∷ Array 150 1 ∷ Array 151 1 ∷ Array 152 1 ∷ Array 153 1 ∷ Array 154 1 ∷ Array 155 1 ∷ Array 156 1 ∷ Array 157 1 ∷ Array 158 1
    ∷ Array 159 1 ∷ Array 160 1 ∷ Array 161 1 ∷ Array 162 1 ∷ Array 163 1 ∷ Array 164 1 ∷ Array 165 1 ∷ Array 166 1 ∷ Array 167 1 ∷ Array 168 1
    ∷ Array 169 1 ∷ Array 170 1 ∷ Array 171 1 ∷ Array 172 1 ∷ Array 173 1 ∷ Array 174 1 ∷ Array 175 1 ∷ Array 176 1 ∷ Array 177 1 ∷ Array 178 1
    ∷ Array 179 1 ∷ Array 180 1 ∷ Array 181 1 ∷ Array 182 1 ∷ Array 183 1 ∷ Array 184 1 ∷ Array 185 1 ∷ Array 186 1 ∷ Array 187 1 ∷ Array 188 1
    ∷ Array 189 1 ∷ Array 190 1 ∷ Array 191 1 ∷ Array 192 1 ∷ Array 193 1 ∷ Array 194 1 ∷ Array 195 1 ∷ Array 196 1 ∷ Array 197 1 ∷ Array 198 1
    ∷ Array 199 1 ∷ Array 200 1 ∷ Array 201 1 ∷ Array 202 1 ∷ Array 203 1 ∷ Array 204 1 ∷ Array 205 1 ∷ Array 206 1 ∷ Array 207 1 ∷ Array 208 1
    ∷ Array 209 1 ∷ Array 210 1 ∷ Array 211 1 ∷ Array 212 1 ∷ Array 213 1 ∷ Array 214 1 ∷ Array 215 1 ∷ Array 216 1 ∷ Array 217 1 ∷ Array 218 1
    ∷ Array 219 1 ∷ Array 220 1 ∷ Array 221 1 ∷ Array 222 1 ∷ Array 223 1 ∷ Array 224 1 ∷ Array 225 1 ∷ Array 226 1 ∷ Array 227 1 ∷ Array 228 1
    ∷ Array 229 1 ∷ Array 230 1 ∷ Array 231 1 ∷ Array 232 1 ∷ Array 233 1 ∷ Array 234 1 ∷ Array 235 1 ∷ Array 236 1 ∷ Array 237 1 ∷ Array 238 1
    ∷ Array 239 1 ∷ Array 240 1 ∷ Array 241 1 ∷ Array 242 1 ∷ Array 243 1 ∷ Array 244 1 ∷ Array 245 1 ∷ Array 246 1 ∷ Array 247 1 ∷ Array 248 1
    ∷ Array 249 1 ∷ Array 250 1 ∷ Array 251 1 ∷ Array 252 1 ∷ Array 253 1 ∷ Array 254 1 ∷ Array 255 1 ∷ Array 256 1 ∷ Array 257 1 ∷ Array 258 1
    ∷ Array 259 1 ∷ Array 260 1 ∷ Array 261 1 ∷ Array 262 1 ∷ Array 263 1 ∷ Array 264 1 ∷ Array 265 1 ∷ Array 266 1 ∷ Array 267 1 ∷ Array 268 1
    ∷ Array 269 1 ∷ Array 270 1 ∷ Array 271 1 ∷ Array 272 1 ∷ Array 273 1 ∷ Array 274 1 ∷ Array 275 1 ∷ Array 276 1 ∷ Array 277 1 ∷ Array 278 1
    ∷ Array 279 1 ∷ Array 280 1 ∷ Array 281 1 ∷ Array 282 1 ∷ Array 283 1 ∷ Array 284 1 ∷ Array 285 1 ∷ Array 286 1 ∷ Array 287 1 ∷ Array 288 1
    ∷ Array 289 1 ∷ Array 290 1 ∷ Array 291 1 ∷ Array 292 1 ∷ Array 293 1 ∷ Array 294 1 ∷ Array 295 1 ∷ Array 296 1 ∷ Array 297 1 ∷ Array 298 1
    ∷ Array 299 1 ∷ Array 300 1 ∷ Array 301 1 ∷ Array 302 1 ∷ Array 303 1 ∷ Array 304 1 ∷ Array 305 1 ∷ Array 306 1 ∷ Array 307 1 ∷ Array 308 1
    ∷ Array 309 1 ∷ Array 310 1 ∷ Array 311 1 ∷ Array 312 1 ∷ Array 313 1 ∷ Array 314 1 ∷ Array 315 1 ∷ Array 316 1 ∷ Array 317 1 ∷ Array 318 1
    ∷ Array 319 1 ∷ Array 320 1 ∷ Array 321 1 ∷ Array 322 1 ∷ Array 323 1 ∷ Array 324 1 ∷ Array 325 1 ∷ Array 326 1 ∷ Array 327 1 ∷ Array 328 1
    ∷ Array 329 1 ∷ Array 330 1 ∷ Array 331 1 ∷ Array 332 1 ∷ Array 333 1 ∷ Array 334 1 ∷ Array 335 1 ∷ Array 336 1 ∷ Array 337 1 ∷ Array 338 1
    ∷ Array 339 1 ∷ Array 340 1 ∷ Array 341 1 ∷ Array 342 1 ∷ Array 343 1 ∷ Array 344 1 ∷ Array 345 1 ∷ Array 346 1 ∷ Array 347 1 ∷ Array 348 1
    ∷ Array 349 1 ∷ Array 350 1 ∷ Array 351 1 ∷ Array 352 1 ∷ Array 353 1 ∷ Array 354 1 ∷ Array 355 1 ∷ Array 356 1 ∷ Array 357 1 ∷ Array 358 1
    ∷ Array 359 1 ∷ Array 360 1 ∷ Array 361 1 ∷ Array 362 1 ∷ Array 363 1 ∷ Array 364 1 ∷ Array 365 1 ∷ Array 366 1 ∷ Array 367 1 ∷ Array 368 1
    ∷ Array 369 1 ∷ Array 370 1 ∷ Array 371 1 ∷ Array 372 1 ∷ Array 373 1 ∷ Array 374 1 ∷ Array 375 1 ∷ Array 376 1 ∷ Array 377 1 ∷ Array 378 1
    ∷ Array 379 1 ∷ Array 380 1 ∷ Array 381 1 ∷ Array 382 1 ∷ Array 383 1 ∷ Array 384 1 ∷ Array 385 1 ∷ Array 386 1 ∷ Array 387 1 ∷ Array 388 1
    ∷ Array 389 1 ∷ Array 390 1 ∷ Array 391 1 ∷ Array 392 1 ∷ Array 393 1 ∷ Array 394 1 ∷ Array 395 1 ∷ Array 396 1 ∷ Array 397 1 ∷ Array 398 1
    ∷ Array 399 1 ∷ Array 400 1 ∷ Array 401 1 ∷ Array 402 1 ∷ Array 403 1 ∷ Array 404 1 ∷ Array 405 1 ∷ Array 406 1 ∷ Array 407 1 ∷ Array 408 1
    ∷ Array 409 1 ∷ Array 410 1 ∷ Array 411 1 ∷ Array 412 1 ∷ Array 413 1 ∷ Array 414 1 ∷ Array 415 1 ∷ Array 416 1 ∷ Array 417 1 ∷ Array 418 1
    ∷ Array 419 1 ∷ Array 420 1 ∷ Array 421 1 ∷ Array 422 1 ∷ Array 423 1 ∷ Array 424 1 ∷ Array 425 1 ∷ Array 426 1 ∷ Array 427 1 ∷ Array 428 1
    ∷ Array 429 1 ∷ Array 430 1 ∷ Array 431 1 ∷ Array 432 1 ∷ Array 433 1 ∷ Array 434 1 ∷ Array 435 1 ∷ Array 436 1 ∷ Array 437 1 ∷ Array 438 1
    ∷ Array 439 1 ∷ Array 440 1 ∷ Array 441 1 ∷ Array 442 1 ∷ Array 443 1 ∷ Array 444 1 ∷ Array 445 1 ∷ Array 446 1 ∷ Array 447 1 ∷ Array 448 1
    ∷ Array 449 1 ∷ Array 450 1 ∷ Array 451 1 ∷ Array 452 1 ∷ Array 453 1 ∷ Array 454 1 ∷ Array 455 1 ∷ Array 456 1 ∷ Array 457 1 ∷ Array 458 1
    ∷ Array 459 1 ∷ Array 460 1 ∷ Array 461 1 ∷ Array 462 1 ∷ Array 463 1 ∷ Array 464 1 ∷ Array 465 1 ∷ Array 466 1 ∷ Array 467 1 ∷ Array 468 1
    ∷ Array 469 1 ∷ Array 470 1 ∷ Array 471 1 ∷ Array 472 1 ∷ Array 473 1 ∷ Array 474 1 ∷ Array 475 1 ∷ Array 476 1 ∷ Array 477 1 ∷ Array 478 1
    ∷ Array 479 1 ∷ Array 480 1 ∷ Array 481 1 ∷ Array 482 1 ∷ Array 483 1 ∷ Array 484 1 ∷ Array 485 1 ∷ Array 486 1 ∷ Array 487 1 ∷ Array 488 1
    ∷ Array 489 1 ∷ Array 490 1 ∷ Array 491 1 ∷ Array 492 1 ∷ Array 493 1 ∷ Array 494 1 ∷ Array 495 1 ∷ Array 496 1 ∷ Array 497 1 ∷ Array 498 1
    ∷ Array 499 1 ∷ Array 500 1 ∷ Array 501 1 ∷ Array 502 1 ∷ Array 503 1 ∷ Array 504 1 ∷ Array 505 1 ∷ Array 506 1 ∷ Array 507 1 ∷ Array 508 1
    ∷ Array 509 1 ∷ Array 510 1 ∷ Array 511 1 ∷ Array 512 1 ∷ Typedef (ascii "x") 513 ∷ [])
    (one 278 513 ∷ one 164 499 ∷ one 211 134 ∷ [])
    ((12, 0) ∷ (11, 0) ∷ (11, 0) ∷ [])
    ""
    ∷ []
