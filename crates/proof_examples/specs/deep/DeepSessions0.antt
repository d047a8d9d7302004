-- Written by tools/vectors.py. Sections and requests of oracle/answers.cases at the limits of depth, each beside the answers.
-- That they are equal is `deep_sessions0_hold` of proofs/DeepSessions0.
use Rattle.std.specs.Prelude.{true, false, List, [], ◌∷◌}
use Rattle.spec_bytes.specs.text.Text.{ascii}
use Rattle.spec_c_dumper.specs.rules.Machine.{one, all}
use Rattle.proof_examples.specs.vectors.Base.{member, param, Vector, session}
use Rattle.spec_c_dumper.specs.rules.Types.{Void, Int, Ptr, Array, Composite, Typedef, FuncProto}

abbrev pub deep_sessions0 : List Vector
deep_sessions0 =
    session 8 false  -- 1-328-1
    (Void ∷ Int (ascii "x") 8 ∷ FuncProto 1 [] ∷ Ptr 2 ∷ FuncProto 3 [] ∷ Ptr 4 ∷ FuncProto 5 [] ∷ Ptr 6 ∷ FuncProto 7 [] ∷ Ptr 8 ∷ FuncProto 9 []
    ∷ Ptr 10 ∷ FuncProto 11 [] ∷ Ptr 12 ∷ FuncProto 13 [] ∷ Ptr 14 ∷ FuncProto 15 [] ∷ Ptr 16 ∷ FuncProto 17 [] ∷ Ptr 18 ∷ FuncProto 19 [] ∷ Ptr 20
    ∷ FuncProto 21 [] ∷ Ptr 22 ∷ FuncProto 23 [] ∷ Ptr 24 ∷ FuncProto 25 [] ∷ Ptr 26 ∷ FuncProto 27 [] ∷ Ptr 28 ∷ FuncProto 29 [] ∷ Ptr 30
    ∷ FuncProto 31 [] ∷ Ptr 32 ∷ FuncProto 33 [] ∷ Ptr 34 ∷ FuncProto 35 [] ∷ Ptr 36 ∷ FuncProto 37 [] ∷ Ptr 38 ∷ FuncProto 39 [] ∷ Ptr 40
    ∷ FuncProto 41 [] ∷ Ptr 42 ∷ FuncProto 43 [] ∷ Ptr 44 ∷ FuncProto 45 [] ∷ Ptr 46 ∷ FuncProto 47 [] ∷ Ptr 48 ∷ FuncProto 49 [] ∷ Ptr 50
    ∷ FuncProto 51 [] ∷ Ptr 52 ∷ FuncProto 53 [] ∷ Ptr 54 ∷ FuncProto 55 [] ∷ Ptr 56 ∷ FuncProto 57 [] ∷ Ptr 58 ∷ FuncProto 59 [] ∷ Ptr 60
    ∷ FuncProto 61 [] ∷ Ptr 62 ∷ FuncProto 63 [] ∷ Ptr 64 ∷ FuncProto 65 [] ∷ Ptr 66 ∷ FuncProto 67 [] ∷ Ptr 68 ∷ FuncProto 69 [] ∷ Ptr 70
    ∷ FuncProto 71 [] ∷ Ptr 72 ∷ FuncProto 73 [] ∷ Ptr 74 ∷ FuncProto 75 [] ∷ Ptr 76 ∷ FuncProto 77 [] ∷ Ptr 78 ∷ FuncProto 79 [] ∷ Ptr 80
    ∷ FuncProto 81 [] ∷ Ptr 82 ∷ FuncProto 83 [] ∷ Ptr 84 ∷ FuncProto 85 [] ∷ Ptr 86 ∷ FuncProto 87 [] ∷ Ptr 88 ∷ FuncProto 89 [] ∷ Ptr 90
    ∷ FuncProto 91 [] ∷ Ptr 92 ∷ FuncProto 93 [] ∷ Ptr 94 ∷ FuncProto 95 [] ∷ Ptr 96 ∷ FuncProto 97 [] ∷ Ptr 98 ∷ FuncProto 99 [] ∷ Ptr 100
    ∷ FuncProto 101 [] ∷ Ptr 102 ∷ FuncProto 103 [] ∷ Ptr 104 ∷ FuncProto 105 [] ∷ Ptr 106 ∷ FuncProto 107 [] ∷ Ptr 108 ∷ FuncProto 109 [] ∷ Ptr 110
    ∷ FuncProto 111 [] ∷ Ptr 112 ∷ FuncProto 113 [] ∷ Ptr 114 ∷ FuncProto 115 [] ∷ Ptr 116 ∷ FuncProto 117 [] ∷ Ptr 118 ∷ FuncProto 119 [] ∷ Ptr 120
    ∷ FuncProto 121 [] ∷ Ptr 122 ∷ FuncProto 123 [] ∷ Ptr 124 ∷ FuncProto 125 [] ∷ Ptr 126 ∷ FuncProto 127 [] ∷ Ptr 128 ∷ FuncProto 129 [] ∷ Ptr 130
    ∷ FuncProto 131 [] ∷ Ptr 132 ∷ FuncProto 133 [] ∷ Ptr 134 ∷ FuncProto 135 [] ∷ Ptr 136 ∷ FuncProto 137 [] ∷ Ptr 138 ∷ FuncProto 139 [] ∷ Ptr 140
    ∷ FuncProto 141 [] ∷ Ptr 142 ∷ FuncProto 143 [] ∷ Ptr 144 ∷ FuncProto 145 [] ∷ Ptr 146 ∷ FuncProto 147 [] ∷ Ptr 148 ∷ FuncProto 149 [] ∷ Ptr 150
    ∷ FuncProto 151 [] ∷ Ptr 152 ∷ FuncProto 153 [] ∷ Ptr 154 ∷ FuncProto 155 [] ∷ Ptr 156 ∷ FuncProto 157 [] ∷ Ptr 158 ∷ FuncProto 159 [] ∷ Ptr 160
    ∷ FuncProto 161 [] ∷ Ptr 162 ∷ FuncProto 163 [] ∷ Ptr 164 ∷ FuncProto 165 [] ∷ Ptr 166 ∷ FuncProto 167 [] ∷ Ptr 168 ∷ FuncProto 169 [] ∷ Ptr 170
    ∷ FuncProto 171 [] ∷ Ptr 172 ∷ FuncProto 173 [] ∷ Ptr 174 ∷ FuncProto 175 [] ∷ Ptr 176 ∷ FuncProto 177 [] ∷ Ptr 178 ∷ FuncProto 179 [] ∷ Ptr 180
    ∷ FuncProto 181 [] ∷ Ptr 182 ∷ FuncProto 183 [] ∷ Ptr 184 ∷ FuncProto 185 [] ∷ Ptr 186 ∷ FuncProto 187 [] ∷ Ptr 188 ∷ FuncProto 189 [] ∷ Ptr 190
    ∷ FuncProto 191 [] ∷ Ptr 192 ∷ FuncProto 193 [] ∷ Ptr 194 ∷ FuncProto 195 [] ∷ Ptr 196 ∷ FuncProto 197 [] ∷ Ptr 198 ∷ FuncProto 199 [] ∷ Ptr 200
    ∷ FuncProto 201 [] ∷ Ptr 202 ∷ FuncProto 203 [] ∷ Ptr 204 ∷ FuncProto 205 [] ∷ Ptr 206 ∷ FuncProto 207 [] ∷ Ptr 208 ∷ FuncProto 209 [] ∷ Ptr 210
    ∷ FuncProto 211 [] ∷ Ptr 212 ∷ FuncProto 213 [] ∷ Ptr 214 ∷ FuncProto 215 [] ∷ Ptr 216 ∷ FuncProto 217 [] ∷ Ptr 218 ∷ FuncProto 219 [] ∷ Ptr 220
    ∷ FuncProto 221 [] ∷ Ptr 222 ∷ FuncProto 223 [] ∷ Ptr 224 ∷ FuncProto 225 [] ∷ Ptr 226 ∷ FuncProto 227 [] ∷ Ptr 228 ∷ FuncProto 229 [] ∷ Ptr 230
    ∷ FuncProto 231 [] ∷ Ptr 232 ∷ FuncProto 233 [] ∷ Ptr 234 ∷ FuncProto 235 [] ∷ Ptr 236 ∷ FuncProto 237 [] ∷ Ptr 238 ∷ FuncProto 239 [] ∷ Ptr 240
    ∷ FuncProto 241 [] ∷ Ptr 242 ∷ FuncProto 243 [] ∷ Ptr 244 ∷ FuncProto 245 [] ∷ Ptr 246 ∷ FuncProto 247 [] ∷ Ptr 248 ∷ FuncProto 249 [] ∷ Ptr 250
    ∷ FuncProto 251 [] ∷ Ptr 252 ∷ FuncProto 253 [] ∷ Ptr 254 ∷ FuncProto 255 [] ∷ Ptr 256 ∷ FuncProto 257 [] ∷ Ptr 258 ∷ FuncProto 259 [] ∷ Ptr 260
    ∷ FuncProto 261 [] ∷ Ptr 262 ∷ FuncProto 263 [] ∷ Ptr 264 ∷ FuncProto 265 [] ∷ Ptr 266 ∷ FuncProto 267 [] ∷ Ptr 268 ∷ FuncProto 269 [] ∷ Ptr 270
    ∷ FuncProto 271 [] ∷ Ptr 272 ∷ FuncProto 273 [] ∷ Ptr 274 ∷ FuncProto 275 [] ∷ Ptr 276 ∷ FuncProto 277 [] ∷ Ptr 278 ∷ FuncProto 279 [] ∷ Ptr 280
    ∷ FuncProto 281 [] ∷ Ptr 282 ∷ FuncProto 283 [] ∷ Ptr 284 ∷ FuncProto 285 [] ∷ Ptr 286 ∷ FuncProto 287 [] ∷ Ptr 288 ∷ FuncProto 289 [] ∷ Ptr 290
    ∷ FuncProto 291 [] ∷ Ptr 292 ∷ FuncProto 293 [] ∷ Ptr 294 ∷ FuncProto 295 [] ∷ Ptr 296 ∷ FuncProto 297 [] ∷ Ptr 298 ∷ FuncProto 299 [] ∷ Ptr 300
    ∷ FuncProto 301 [] ∷ Ptr 302 ∷ FuncProto 303 [] ∷ Ptr 304 ∷ FuncProto 305 [] ∷ Ptr 306 ∷ FuncProto 307 [] ∷ Ptr 308 ∷ FuncProto 309 [] ∷ Ptr 310
    ∷ FuncProto 311 [] ∷ Ptr 312 ∷ FuncProto 313 [] ∷ Ptr 314 ∷ FuncProto 315 [] ∷ Ptr 316 ∷ FuncProto 317 [] ∷ Ptr 318 ∷ FuncProto 319 [] ∷ Ptr 320
    ∷ FuncProto 321 [] ∷ Ptr 322 ∷ FuncProto 323 [] ∷ Ptr 324 ∷ FuncProto 325 [] ∷ Ptr 326 ∷ FuncProto 327 [] ∷ Ptr 328 ∷ FuncProto 329 [] ∷ Ptr 330
    ∷ FuncProto 331 [] ∷ Ptr 332 ∷ FuncProto 333 [] ∷ Ptr 334 ∷ FuncProto 335 [] ∷ Ptr 336 ∷ FuncProto 337 [] ∷ Ptr 338 ∷ FuncProto 339 [] ∷ Ptr 340
    ∷ FuncProto 341 [] ∷ Ptr 342 ∷ FuncProto 343 [] ∷ Ptr 344 ∷ FuncProto 345 [] ∷ Ptr 346 ∷ FuncProto 347 [] ∷ Ptr 348 ∷ FuncProto 349 [] ∷ Ptr 350
    ∷ FuncProto 351 [] ∷ Ptr 352 ∷ FuncProto 353 [] ∷ Ptr 354 ∷ FuncProto 355 [] ∷ Ptr 356 ∷ FuncProto 357 [] ∷ Ptr 358 ∷ FuncProto 359 [] ∷ Ptr 360
    ∷ FuncProto 361 [] ∷ Ptr 362 ∷ FuncProto 363 [] ∷ Ptr 364 ∷ FuncProto 365 [] ∷ Ptr 366 ∷ FuncProto 367 [] ∷ Ptr 368 ∷ FuncProto 369 [] ∷ Ptr 370
    ∷ FuncProto 371 [] ∷ Ptr 372 ∷ FuncProto 373 [] ∷ Ptr 374 ∷ FuncProto 375 [] ∷ Ptr 376 ∷ FuncProto 377 [] ∷ Ptr 378 ∷ FuncProto 379 [] ∷ Ptr 380
    ∷ FuncProto 381 [] ∷ Ptr 382 ∷ FuncProto 383 [] ∷ Ptr 384 ∷ FuncProto 385 [] ∷ Ptr 386 ∷ FuncProto 387 [] ∷ Ptr 388 ∷ FuncProto 389 [] ∷ Ptr 390
    ∷ FuncProto 391 [] ∷ Ptr 392 ∷ FuncProto 393 [] ∷ Ptr 394 ∷ FuncProto 395 [] ∷ Ptr 396 ∷ FuncProto 397 [] ∷ Ptr 398 ∷ FuncProto 399 [] ∷ Ptr 400
    ∷ FuncProto 401 [] ∷ Ptr 402 ∷ FuncProto 403 [] ∷ Ptr 404 ∷ FuncProto 405 [] ∷ Ptr 406 ∷ FuncProto 407 [] ∷ Ptr 408 ∷ FuncProto 409 [] ∷ Ptr 410
    ∷ FuncProto 411 [] ∷ Ptr 412 ∷ FuncProto 413 [] ∷ Ptr 414 ∷ FuncProto 415 [] ∷ Ptr 416 ∷ FuncProto 417 [] ∷ Ptr 418 ∷ FuncProto 419 [] ∷ Ptr 420
    ∷ FuncProto 421 [] ∷ Ptr 422 ∷ FuncProto 423 [] ∷ Ptr 424 ∷ FuncProto 425 [] ∷ Ptr 426 ∷ FuncProto 427 [] ∷ Ptr 428 ∷ FuncProto 429 [] ∷ Ptr 430
    ∷ FuncProto 431 [] ∷ Ptr 432 ∷ FuncProto 433 [] ∷ Ptr 434 ∷ FuncProto 435 [] ∷ Ptr 436 ∷ FuncProto 437 [] ∷ Ptr 438 ∷ FuncProto 439 [] ∷ Ptr 440
    ∷ FuncProto 441 [] ∷ Ptr 442 ∷ FuncProto 443 [] ∷ Ptr 444 ∷ FuncProto 445 [] ∷ Ptr 446 ∷ FuncProto 447 [] ∷ Ptr 448 ∷ FuncProto 449 [] ∷ Ptr 450
    ∷ FuncProto 451 [] ∷ Ptr 452 ∷ FuncProto 453 [] ∷ Ptr 454 ∷ FuncProto 455 [] ∷ Ptr 456 ∷ FuncProto 457 [] ∷ Ptr 458 ∷ FuncProto 459 [] ∷ Ptr 460
    ∷ FuncProto 461 [] ∷ Ptr 462 ∷ FuncProto 463 [] ∷ Ptr 464 ∷ FuncProto 465 [] ∷ Ptr 466 ∷ FuncProto 467 [] ∷ Ptr 468 ∷ FuncProto 469 [] ∷ Ptr 470
    ∷ FuncProto 471 [] ∷ Ptr 472 ∷ FuncProto 473 [] ∷ Ptr 474 ∷ FuncProto 475 [] ∷ Ptr 476 ∷ FuncProto 477 [] ∷ Ptr 478 ∷ FuncProto 479 [] ∷ Ptr 480
    ∷ FuncProto 481 [] ∷ Ptr 482 ∷ FuncProto 483 [] ∷ Ptr 484 ∷ FuncProto 485 [] ∷ Ptr 486 ∷ FuncProto 487 [] ∷ Ptr 488 ∷ FuncProto 489 [] ∷ Ptr 490
    ∷ FuncProto 491 [] ∷ Ptr 492 ∷ FuncProto 493 [] ∷ Ptr 494 ∷ FuncProto 495 [] ∷ Ptr 496 ∷ FuncProto 497 [] ∷ Ptr 498 ∷ FuncProto 499 [] ∷ Ptr 500
    ∷ FuncProto 501 [] ∷ Ptr 502 ∷ FuncProto 503 [] ∷ Ptr 504 ∷ FuncProto 505 [] ∷ Ptr 506 ∷ FuncProto 507 [] ∷ Ptr 508 ∷ FuncProto 509 [] ∷ Ptr 510
    ∷ FuncProto 511 [] ∷ Ptr 512 ∷ FuncProto 513 [] ∷ Ptr 514 ∷ Typedef (ascii "x") 515 ∷ [])
    (one 0 516 ∷ one 49813 515 ∷ one 25 514 ∷ [])
    ((12, 0) ∷ (11, 0) ∷ (11, 0) ∷ [])
    ""
    ∷ session 4 false  -- 1-944-2
    (Void ∷ Composite true (ascii "x") 4 (member "y" 2 0 0 ∷ []) ∷ Ptr 3 ∷ Array 4 2 ∷ Ptr 5 ∷ Array 6 2 ∷ Ptr 7 ∷ Array 8 2 ∷ Ptr 9 ∷ Array 10 2
    ∷ Ptr 11 ∷ Array 12 2 ∷ Ptr 13 ∷ Array 14 2 ∷ Ptr 15 ∷ Array 16 2 ∷ Ptr 17 ∷ Array 18 2 ∷ Ptr 19 ∷ Array 20 2 ∷ Ptr 21 ∷ Array 22 2 ∷ Ptr 23
    ∷ Array 24 2 ∷ Ptr 25 ∷ Array 26 2 ∷ Ptr 27 ∷ Array 28 2 ∷ Ptr 29 ∷ Array 30 2 ∷ Ptr 31 ∷ Array 32 2 ∷ Ptr 33 ∷ Array 34 2 ∷ Ptr 35 ∷ Array 36 2
    ∷ Ptr 37 ∷ Array 38 2 ∷ Ptr 39 ∷ Array 40 2 ∷ Ptr 41 ∷ Array 42 2 ∷ Ptr 43 ∷ Array 44 2 ∷ Ptr 45 ∷ Array 46 2 ∷ Ptr 47 ∷ Array 48 2 ∷ Ptr 49
    ∷ Array 50 2 ∷ Ptr 51 ∷ Array 52 2 ∷ Ptr 53 ∷ Array 54 2 ∷ Ptr 55 ∷ Array 56 2 ∷ Ptr 57 ∷ Array 58 2 ∷ Ptr 59 ∷ Array 60 2 ∷ Ptr 61 ∷ Array 62 2
    ∷ Ptr 63 ∷ Array 64 2 ∷ Ptr 65 ∷ Array 66 2 ∷ Ptr 67 ∷ Array 68 2 ∷ Ptr 69 ∷ Array 70 2 ∷ Ptr 71 ∷ Array 72 2 ∷ Ptr 73 ∷ Array 74 2 ∷ Ptr 75
    ∷ Array 76 2 ∷ Ptr 77 ∷ Array 78 2 ∷ Ptr 79 ∷ Array 80 2 ∷ Ptr 81 ∷ Array 82 2 ∷ Ptr 83 ∷ Array 84 2 ∷ Ptr 85 ∷ Array 86 2 ∷ Ptr 87 ∷ Array 88 2
    ∷ Ptr 89 ∷ Array 90 2 ∷ Ptr 91 ∷ Array 92 2 ∷ Ptr 93 ∷ Array 94 2 ∷ Ptr 95 ∷ Array 96 2 ∷ Ptr 97 ∷ Array 98 2 ∷ Ptr 99 ∷ Array 100 2 ∷ Ptr 101
    ∷ Array 102 2 ∷ Ptr 103 ∷ Array 104 2 ∷ Ptr 105 ∷ Array 106 2 ∷ Ptr 107 ∷ Array 108 2 ∷ Ptr 109 ∷ Array 110 2 ∷ Ptr 111 ∷ Array 112 2 ∷ Ptr 113
    ∷ Array 114 2 ∷ Ptr 115 ∷ Array 116 2 ∷ Ptr 117 ∷ Array 118 2 ∷ Ptr 119 ∷ Array 120 2 ∷ Ptr 121 ∷ Array 122 2 ∷ Ptr 123 ∷ Array 124 2 ∷ Ptr 125
    ∷ Array 126 2 ∷ Ptr 127 ∷ Array 128 2 ∷ Ptr 129 ∷ Array 130 2 ∷ Ptr 131 ∷ Array 132 2 ∷ Ptr 133 ∷ Array 134 2 ∷ Ptr 135 ∷ Array 136 2 ∷ Ptr 137
    ∷ Array 138 2 ∷ Ptr 139 ∷ Array 140 2 ∷ Ptr 141 ∷ Array 142 2 ∷ Ptr 143 ∷ Array 144 2 ∷ Ptr 145 ∷ Array 146 2 ∷ Ptr 147 ∷ Array 148 2 ∷ Ptr 149
    ∷ Array 150 2 ∷ Ptr 151 ∷ Array 152 2 ∷ Ptr 153 ∷ Array 154 2 ∷ Ptr 155 ∷ Array 156 2 ∷ Ptr 157 ∷ Array 158 2 ∷ Ptr 159 ∷ Array 160 2 ∷ Ptr 161
    ∷ Array 162 2 ∷ Ptr 163 ∷ Array 164 2 ∷ Ptr 165 ∷ Array 166 2 ∷ Ptr 167 ∷ Array 168 2 ∷ Ptr 169 ∷ Array 170 2 ∷ Ptr 171 ∷ Array 172 2 ∷ Ptr 173
    ∷ Array 174 2 ∷ Ptr 175 ∷ Array 176 2 ∷ Ptr 177 ∷ Array 178 2 ∷ Ptr 179 ∷ Array 180 2 ∷ Ptr 181 ∷ Array 182 2 ∷ Ptr 183 ∷ Array 184 2 ∷ Ptr 185
    ∷ Array 186 2 ∷ Ptr 187 ∷ Array 188 2 ∷ Ptr 189 ∷ Array 190 2 ∷ Ptr 191 ∷ Array 192 2 ∷ Ptr 193 ∷ Array 194 2 ∷ Ptr 195 ∷ Array 196 2 ∷ Ptr 197
    ∷ Array 198 2 ∷ Ptr 199 ∷ Array 200 2 ∷ Ptr 201 ∷ Array 202 2 ∷ Ptr 203 ∷ Array 204 2 ∷ Ptr 205 ∷ Array 206 2 ∷ Ptr 207 ∷ Array 208 2 ∷ Ptr 209
    ∷ Array 210 2 ∷ Ptr 211 ∷ Array 212 2 ∷ Ptr 213 ∷ Array 214 2 ∷ Ptr 215 ∷ Array 216 2 ∷ Ptr 217 ∷ Array 218 2 ∷ Ptr 219 ∷ Array 220 2 ∷ Ptr 221
    ∷ Array 222 2 ∷ Ptr 223 ∷ Array 224 2 ∷ Ptr 225 ∷ Array 226 2 ∷ Ptr 227 ∷ Array 228 2 ∷ Ptr 229 ∷ Array 230 2 ∷ Ptr 231 ∷ Array 232 2 ∷ Ptr 233
    ∷ Array 234 2 ∷ Ptr 235 ∷ Array 236 2 ∷ Ptr 237 ∷ Array 238 2 ∷ Ptr 239 ∷ Array 240 2 ∷ Ptr 241 ∷ Array 242 2 ∷ Ptr 243 ∷ Array 244 2 ∷ Ptr 245
    ∷ Array 246 2 ∷ Ptr 247 ∷ Array 248 2 ∷ Ptr 249 ∷ Array 250 2 ∷ Ptr 251 ∷ Array 252 2 ∷ Ptr 253 ∷ Array 254 2 ∷ Ptr 255 ∷ Array 256 2 ∷ Ptr 257
    ∷ Array 258 2 ∷ Ptr 259 ∷ Array 260 2 ∷ Ptr 261 ∷ Array 262 2 ∷ Ptr 263 ∷ Array 264 2 ∷ Ptr 265 ∷ Array 266 2 ∷ Ptr 267 ∷ Array 268 2 ∷ Ptr 269
    ∷ Array 270 2 ∷ Ptr 271 ∷ Array 272 2 ∷ Ptr 273 ∷ Array 274 2 ∷ Ptr 275 ∷ Array 276 2 ∷ Ptr 277 ∷ Array 278 2 ∷ Ptr 279 ∷ Array 280 2 ∷ Ptr 281
    ∷ Array 282 2 ∷ Ptr 283 ∷ Array 284 2 ∷ Ptr 285 ∷ Array 286 2 ∷ Ptr 287 ∷ Array 288 2 ∷ Ptr 289 ∷ Array 290 2 ∷ Ptr 291 ∷ Array 292 2 ∷ Ptr 293
    ∷ Array 294 2 ∷ Ptr 295 ∷ Array 296 2 ∷ Ptr 297 ∷ Array 298 2 ∷ Ptr 299 ∷ Array 300 2 ∷ Ptr 301 ∷ Array 302 2 ∷ Ptr 303 ∷ Array 304 2 ∷ Ptr 305
    ∷ Array 306 2 ∷ Ptr 307 ∷ Array 308 2 ∷ Ptr 309 ∷ Array 310 2 ∷ Ptr 311 ∷ Array 312 2 ∷ Ptr 313 ∷ Array 314 2 ∷ Ptr 315 ∷ Array 316 2 ∷ Ptr 317
    ∷ Array 318 2 ∷ Ptr 319 ∷ Array 320 2 ∷ Ptr 321 ∷ Array 322 2 ∷ Ptr 323 ∷ Array 324 2 ∷ Ptr 325 ∷ Array 326 2 ∷ Ptr 327 ∷ Array 328 2 ∷ Ptr 329
    ∷ Array 330 2 ∷ Ptr 331 ∷ Array 332 2 ∷ Ptr 333 ∷ Array 334 2 ∷ Ptr 335 ∷ Array 336 2 ∷ Ptr 337 ∷ Array 338 2 ∷ Ptr 339 ∷ Array 340 2 ∷ Ptr 341
    ∷ Array 342 2 ∷ Ptr 343 ∷ Array 344 2 ∷ Ptr 345 ∷ Array 346 2 ∷ Ptr 347 ∷ Array 348 2 ∷ Ptr 349 ∷ Array 350 2 ∷ Ptr 351 ∷ Array 352 2 ∷ Ptr 353
    ∷ Array 354 2 ∷ Ptr 355 ∷ Array 356 2 ∷ Ptr 357 ∷ Array 358 2 ∷ Ptr 359 ∷ Array 360 2 ∷ Ptr 361 ∷ Array 362 2 ∷ Ptr 363 ∷ Array 364 2 ∷ Ptr 365
    ∷ Array 366 2 ∷ Ptr 367 ∷ Array 368 2 ∷ Ptr 369 ∷ Array 370 2 ∷ Ptr 371 ∷ Array 372 2 ∷ Ptr 373 ∷ Array 374 2 ∷ Ptr 375 ∷ Array 376 2 ∷ Ptr 377
    ∷ Array 378 2 ∷ Ptr 379 ∷ Array 380 2 ∷ Ptr 381 ∷ Array 382 2 ∷ Ptr 383 ∷ Array 384 2 ∷ Ptr 385 ∷ Array 386 2 ∷ Ptr 387 ∷ Array 388 2 ∷ Ptr 389
    ∷ Array 390 2 ∷ Ptr 391 ∷ Array 392 2 ∷ Ptr 393 ∷ Array 394 2 ∷ Ptr 395 ∷ Array 396 2 ∷ Ptr 397 ∷ Array 398 2 ∷ Ptr 399 ∷ Array 400 2 ∷ Ptr 401
    ∷ Array 402 2 ∷ Ptr 403 ∷ Array 404 2 ∷ Ptr 405 ∷ Array 406 2 ∷ Ptr 407 ∷ Array 408 2 ∷ Ptr 409 ∷ Array 410 2 ∷ Ptr 411 ∷ Array 412 2 ∷ Ptr 413
    ∷ Array 414 2 ∷ Ptr 415 ∷ Array 416 2 ∷ Ptr 417 ∷ Array 418 2 ∷ Ptr 419 ∷ Array 420 2 ∷ Ptr 421 ∷ Array 422 2 ∷ Ptr 423 ∷ Array 424 2 ∷ Ptr 425
    ∷ Array 426 2 ∷ Ptr 427 ∷ Array 428 2 ∷ Ptr 429 ∷ Array 430 2 ∷ Ptr 431 ∷ Array 432 2 ∷ Ptr 433 ∷ Array 434 2 ∷ Ptr 435 ∷ Array 436 2 ∷ Ptr 437
    ∷ Array 438 2 ∷ Ptr 439 ∷ Array 440 2 ∷ Ptr 441 ∷ Array 442 2 ∷ Ptr 443 ∷ Array 444 2 ∷ Ptr 445 ∷ Array 446 2 ∷ Ptr 447 ∷ Array 448 2 ∷ Ptr 449
    ∷ Array 450 2 ∷ Ptr 451 ∷ Array 452 2 ∷ Ptr 453 ∷ Array 454 2 ∷ Ptr 455 ∷ Array 456 2 ∷ Ptr 457 ∷ Array 458 2 ∷ Ptr 459 ∷ Array 460 2 ∷ Ptr 461
    ∷ Array 462 2 ∷ Ptr 463 ∷ Array 464 2 ∷ Ptr 465 ∷ Array 466 2 ∷ Ptr 467 ∷ Array 468 2 ∷ Ptr 469 ∷ Array 470 2 ∷ Ptr 471 ∷ Array 472 2 ∷ Ptr 473
    ∷ Array 474 2 ∷ Ptr 475 ∷ Array 476 2 ∷ Ptr 477 ∷ Array 478 2 ∷ Ptr 479 ∷ Array 480 2 ∷ Ptr 481 ∷ Array 482 2 ∷ Ptr 483 ∷ Array 484 2 ∷ Ptr 485
    ∷ Array 486 2 ∷ Ptr 487 ∷ Array 488 2 ∷ Ptr 489 ∷ Array 490 2 ∷ Ptr 491 ∷ Array 492 2 ∷ Ptr 493 ∷ Array 494 2 ∷ Ptr 495 ∷ Array 496 2 ∷ Ptr 497
    ∷ Array 498 2 ∷ Ptr 499 ∷ Array 500 2 ∷ Ptr 501 ∷ Array 502 2 ∷ Ptr 503 ∷ Array 504 2 ∷ Ptr 505 ∷ Array 506 2 ∷ Ptr 507 ∷ Array 508 2 ∷ Ptr 509
    ∷ Array 510 2 ∷ Ptr 511 ∷ Array 512 2 ∷ Ptr 513 ∷ Array 514 2 ∷ Int (ascii "x") 8 ∷ [])
    (one 227 0 ∷ one 94094 0 ∷ all 88 ∷ one 243 269 ∷ all 180 ∷ [])
    ((0, 0) ∷ (0, 0) ∷ (12, 0) ∷ (11, 0) ∷ (11, 0) ∷ [])
    ""
    ∷ session 8 true  -- 1-1440-0
    (Void ∷ Typedef (ascii "x") 2 ∷ FuncProto 0 (param "y" 3 ∷ []) ∷ FuncProto 0 (param "y" 4 ∷ []) ∷ FuncProto 0 (param "y" 5 ∷ [])
    ∷ FuncProto 0 (param "y" 6 ∷ []) ∷ FuncProto 0 (param "y" 7 ∷ []) ∷ FuncProto 0 (param "y" 8 ∷ []) ∷ FuncProto 0 (param "y" 9 ∷ [])
    ∷ FuncProto 0 (param "y" 10 ∷ []) ∷ FuncProto 0 (param "y" 11 ∷ []) ∷ FuncProto 0 (param "y" 12 ∷ []) ∷ FuncProto 0 (param "y" 13 ∷ [])
    ∷ FuncProto 0 (param "y" 14 ∷ []) ∷ FuncProto 0 (param "y" 15 ∷ []) ∷ FuncProto 0 (param "y" 16 ∷ []) ∷ FuncProto 0 (param "y" 17 ∷ [])
    ∷ FuncProto 0 (param "y" 18 ∷ []) ∷ FuncProto 0 (param "y" 19 ∷ []) ∷ FuncProto 0 (param "y" 20 ∷ []) ∷ FuncProto 0 (param "y" 21 ∷ [])
    ∷ FuncProto 0 (param "y" 22 ∷ []) ∷ FuncProto 0 (param "y" 23 ∷ []) ∷ FuncProto 0 (param "y" 24 ∷ []) ∷ FuncProto 0 (param "y" 25 ∷ [])
    ∷ FuncProto 0 (param "y" 26 ∷ []) ∷ FuncProto 0 (param "y" 27 ∷ []) ∷ FuncProto 0 (param "y" 28 ∷ []) ∷ FuncProto 0 (param "y" 29 ∷ [])
    ∷ FuncProto 0 (param "y" 30 ∷ []) ∷ FuncProto 0 (param "y" 31 ∷ []) ∷ FuncProto 0 (param "y" 32 ∷ []) ∷ FuncProto 0 (param "y" 33 ∷ [])
    ∷ FuncProto 0 (param "y" 34 ∷ []) ∷ FuncProto 0 (param "y" 35 ∷ []) ∷ FuncProto 0 (param "y" 36 ∷ []) ∷ FuncProto 0 (param "y" 37 ∷ [])
    ∷ FuncProto 0 (param "y" 38 ∷ []) ∷ FuncProto 0 (param "y" 39 ∷ []) ∷ FuncProto 0 (param "y" 40 ∷ []) ∷ FuncProto 0 (param "y" 41 ∷ [])
    ∷ FuncProto 0 (param "y" 42 ∷ []) ∷ FuncProto 0 (param "y" 43 ∷ []) ∷ FuncProto 0 (param "y" 44 ∷ []) ∷ FuncProto 0 (param "y" 45 ∷ [])
    ∷ FuncProto 0 (param "y" 46 ∷ []) ∷ FuncProto 0 (param "y" 47 ∷ []) ∷ FuncProto 0 (param "y" 48 ∷ []) ∷ FuncProto 0 (param "y" 49 ∷ [])
    ∷ FuncProto 0 (param "y" 50 ∷ []) ∷ FuncProto 0 (param "y" 51 ∷ []) ∷ FuncProto 0 (param "y" 52 ∷ []) ∷ FuncProto 0 (param "y" 53 ∷ [])
    ∷ FuncProto 0 (param "y" 54 ∷ []) ∷ FuncProto 0 (param "y" 55 ∷ []) ∷ FuncProto 0 (param "y" 56 ∷ []) ∷ FuncProto 0 (param "y" 57 ∷ [])
    ∷ FuncProto 0 (param "y" 58 ∷ []) ∷ FuncProto 0 (param "y" 59 ∷ []) ∷ FuncProto 0 (param "y" 60 ∷ []) ∷ FuncProto 0 (param "y" 61 ∷ [])
    ∷ FuncProto 0 (param "y" 62 ∷ []) ∷ FuncProto 0 (param "y" 63 ∷ []) ∷ FuncProto 0 (param "y" 64 ∷ []) ∷ FuncProto 0 (param "y" 65 ∷ [])
    ∷ FuncProto 0 (param "y" 66 ∷ []) ∷ FuncProto 0 (param "y" 67 ∷ []) ∷ FuncProto 0 (param "y" 68 ∷ []) ∷ FuncProto 0 (param "y" 69 ∷ [])
    ∷ FuncProto 0 (param "y" 70 ∷ []) ∷ FuncProto 0 (param "y" 71 ∷ []) ∷ FuncProto 0 (param "y" 72 ∷ []) ∷ FuncProto 0 (param "y" 73 ∷ [])
    ∷ FuncProto 0 (param "y" 74 ∷ []) ∷ FuncProto 0 (param "y" 75 ∷ []) ∷ FuncProto 0 (param "y" 76 ∷ []) ∷ FuncProto 0 (param "y" 77 ∷ [])
    ∷ FuncProto 0 (param "y" 78 ∷ []) ∷ FuncProto 0 (param "y" 79 ∷ []) ∷ FuncProto 0 (param "y" 80 ∷ []) ∷ FuncProto 0 (param "y" 81 ∷ [])
    ∷ FuncProto 0 (param "y" 82 ∷ []) ∷ FuncProto 0 (param "y" 83 ∷ []) ∷ FuncProto 0 (param "y" 84 ∷ []) ∷ FuncProto 0 (param "y" 85 ∷ [])
    ∷ FuncProto 0 (param "y" 86 ∷ []) ∷ FuncProto 0 (param "y" 87 ∷ []) ∷ FuncProto 0 (param "y" 88 ∷ []) ∷ FuncProto 0 (param "y" 89 ∷ [])
    ∷ FuncProto 0 (param "y" 90 ∷ []) ∷ FuncProto 0 (param "y" 91 ∷ []) ∷ FuncProto 0 (param "y" 92 ∷ []) ∷ FuncProto 0 (param "y" 93 ∷ [])
    ∷ FuncProto 0 (param "y" 94 ∷ []) ∷ FuncProto 0 (param "y" 95 ∷ []) ∷ FuncProto 0 (param "y" 96 ∷ []) ∷ FuncProto 0 (param "y" 97 ∷ [])
    ∷ FuncProto 0 (param "y" 98 ∷ []) ∷ FuncProto 0 (param "y" 99 ∷ []) ∷ FuncProto 239 (param "y" 100 ∷ []) ∷ FuncProto 0 (param "y" 101 ∷ [])
    ∷ FuncProto 0 (param "y" 102 ∷ []) ∷ FuncProto 0 (param "y" 103 ∷ []) ∷ FuncProto 0 (param "y" 104 ∷ []) ∷ FuncProto 0 (param "y" 105 ∷ [])
    ∷ FuncProto 0 (param "y" 106 ∷ []) ∷ FuncProto 0 (param "y" 107 ∷ []) ∷ FuncProto 0 (param "y" 108 ∷ []) ∷ FuncProto 0 (param "y" 109 ∷ [])
    ∷ FuncProto 0 (param "y" 110 ∷ []) ∷ FuncProto 0 (param "y" 111 ∷ []) ∷ FuncProto 0 (param "y" 112 ∷ []) ∷ FuncProto 0 (param "y" 113 ∷ [])
    ∷ FuncProto 0 (param "y" 114 ∷ []) ∷ FuncProto 0 (param "y" 115 ∷ []) ∷ FuncProto 0 (param "y" 116 ∷ []) ∷ FuncProto 0 (param "y" 117 ∷ [])
    ∷ FuncProto 0 (param "y" 118 ∷ []) ∷ FuncProto 0 (param "y" 119 ∷ []) ∷ FuncProto 0 (param "y" 120 ∷ []) ∷ FuncProto 0 (param "y" 121 ∷ [])
    ∷ FuncProto 0 (param "y" 122 ∷ []) ∷ FuncProto 0 (param "y" 123 ∷ []) ∷ FuncProto 0 (param "y" 124 ∷ []) ∷ FuncProto 0 (param "y" 125 ∷ [])
    ∷ FuncProto 0 (param "y" 126 ∷ []) ∷ FuncProto 0 (param "y" 127 ∷ []) ∷ FuncProto 0 (param "y" 128 ∷ []) ∷ FuncProto 0 (param "y" 129 ∷ [])
    ∷ FuncProto 0 (param "y" 130 ∷ []) ∷ FuncProto 0 (param "y" 131 ∷ []) ∷ FuncProto 0 (param "y" 132 ∷ []) ∷ FuncProto 0 (param "y" 133 ∷ [])
    ∷ FuncProto 0 (param "y" 134 ∷ []) ∷ FuncProto 0 (param "y" 135 ∷ []) ∷ FuncProto 0 (param "y" 136 ∷ []) ∷ FuncProto 0 (param "y" 137 ∷ [])
    ∷ FuncProto 0 (param "y" 138 ∷ []) ∷ FuncProto 0 (param "y" 139 ∷ []) ∷ FuncProto 0 (param "y" 140 ∷ []) ∷ FuncProto 0 (param "y" 141 ∷ [])
    ∷ FuncProto 0 (param "y" 142 ∷ []) ∷ FuncProto 0 (param "y" 143 ∷ []) ∷ FuncProto 0 (param "y" 144 ∷ []) ∷ FuncProto 0 (param "y" 145 ∷ [])
    ∷ FuncProto 0 (param "y" 146 ∷ []) ∷ FuncProto 0 (param "y" 147 ∷ []) ∷ FuncProto 0 (param "y" 148 ∷ []) ∷ FuncProto 0 (param "y" 149 ∷ [])
    ∷ FuncProto 0 (param "y" 150 ∷ []) ∷ FuncProto 0 (param "y" 151 ∷ []) ∷ FuncProto 0 (param "y" 152 ∷ []) ∷ FuncProto 0 (param "y" 153 ∷ [])
    ∷ FuncProto 0 (param "y" 154 ∷ []) ∷ FuncProto 0 (param "y" 155 ∷ []) ∷ FuncProto 0 (param "y" 156 ∷ []) ∷ FuncProto 0 (param "y" 157 ∷ [])
    ∷ FuncProto 0 (param "y" 158 ∷ []) ∷ FuncProto 0 (param "y" 159 ∷ []) ∷ FuncProto 0 (param "y" 160 ∷ []) ∷ FuncProto 0 (param "y" 161 ∷ [])
    ∷ FuncProto 0 (param "y" 162 ∷ []) ∷ FuncProto 0 (param "y" 163 ∷ []) ∷ FuncProto 0 (param "y" 164 ∷ []) ∷ FuncProto 0 (param "y" 165 ∷ [])
    ∷ FuncProto 0 (param "y" 166 ∷ []) ∷ FuncProto 0 (param "y" 167 ∷ []) ∷ FuncProto 0 (param "y" 168 ∷ []) ∷ FuncProto 0 (param "y" 169 ∷ [])
    ∷ FuncProto 0 (param "y" 170 ∷ []) ∷ FuncProto 0 (param "y" 171 ∷ []) ∷ FuncProto 0 (param "y" 172 ∷ []) ∷ FuncProto 0 (param "y" 173 ∷ [])
    ∷ FuncProto 0 (param "y" 174 ∷ []) ∷ FuncProto 0 (param "y" 175 ∷ []) ∷ FuncProto 0 (param "y" 176 ∷ []) ∷ FuncProto 0 (param "y" 177 ∷ [])
    ∷ FuncProto 0 (param "y" 178 ∷ []) ∷ FuncProto 0 (param "y" 179 ∷ []) ∷ FuncProto 0 (param "y" 180 ∷ []) ∷ FuncProto 0 (param "y" 181 ∷ [])
    ∷ FuncProto 0 (param "y" 182 ∷ []) ∷ FuncProto 0 (param "y" 183 ∷ []) ∷ FuncProto 0 (param "y" 184 ∷ []) ∷ FuncProto 0 (param "y" 185 ∷ [])
    ∷ FuncProto 0 (param "y" 186 ∷ []) ∷ FuncProto 0 (param "y" 187 ∷ []) ∷ FuncProto 0 (param "y" 188 ∷ []) ∷ FuncProto 0 (param "y" 189 ∷ [])
    ∷ FuncProto 0 (param "y" 190 ∷ []) ∷ FuncProto 0 (param "y" 191 ∷ []) ∷ FuncProto 0 (param "y" 192 ∷ []) ∷ FuncProto 0 (param "y" 193 ∷ [])
    ∷ FuncProto 0 (param "y" 194 ∷ []) ∷ FuncProto 0 (param "y" 195 ∷ []) ∷ FuncProto 0 (param "y" 196 ∷ []) ∷ FuncProto 0 (param "y" 197 ∷ [])
    ∷ FuncProto 0 (param "y" 198 ∷ []) ∷ FuncProto 0 (param "y" 199 ∷ []) ∷ FuncProto 0 (param "y" 200 ∷ []) ∷ FuncProto 0 (param "y" 201 ∷ [])
    ∷ FuncProto 0 (param "y" 202 ∷ []) ∷ FuncProto 0 (param "y" 203 ∷ []) ∷ FuncProto 0 (param "y" 204 ∷ []) ∷ FuncProto 0 (param "y" 205 ∷ [])
    ∷ FuncProto 0 (param "y" 206 ∷ []) ∷ FuncProto 0 (param "y" 207 ∷ []) ∷ FuncProto 0 (param "y" 208 ∷ []) ∷ FuncProto 0 (param "y" 209 ∷ [])
    ∷ FuncProto 0 (param "y" 210 ∷ []) ∷ FuncProto 0 (param "y" 211 ∷ []) ∷ FuncProto 0 (param "y" 212 ∷ []) ∷ FuncProto 0 (param "y" 213 ∷ [])
    ∷ FuncProto 0 (param "y" 214 ∷ []) ∷ FuncProto 0 (param "y" 215 ∷ []) ∷ FuncProto 0 (param "y" 216 ∷ []) ∷ FuncProto 0 (param "y" 217 ∷ [])
    ∷ FuncProto 0 (param "y" 218 ∷ []) ∷ FuncProto 0 (param "y" 219 ∷ []) ∷ FuncProto 0 (param "y" 220 ∷ []) ∷ FuncProto 0 (param "y" 221 ∷ [])
    ∷ FuncProto 0 (param "y" 222 ∷ []) ∷ FuncProto 0 (param "y" 223 ∷ []) ∷ FuncProto 0 (param "y" 224 ∷ []) ∷ FuncProto 0 (param "y" 225 ∷ [])
    ∷ FuncProto 0 (param "y" 226 ∷ []) ∷ FuncProto 0 (param "y" 227 ∷ []) ∷ FuncProto 0 (param "y" 228 ∷ []) ∷ FuncProto 0 (param "y" 229 ∷ [])
    ∷ FuncProto 0 (param "y" 230 ∷ []) ∷ FuncProto 0 (param "y" 231 ∷ []) ∷ FuncProto 0 (param "y" 232 ∷ []) ∷ FuncProto 0 (param "y" 233 ∷ [])
    ∷ FuncProto 0 (param "y" 234 ∷ []) ∷ FuncProto 0 (param "y" 235 ∷ []) ∷ FuncProto 0 (param "y" 236 ∷ []) ∷ FuncProto 0 (param "y" 237 ∷ [])
    ∷ FuncProto 0 (param "y" 238 ∷ []) ∷ FuncProto 0 (param "y" 239 ∷ []) ∷ FuncProto 0 (param "y" 240 ∷ []) ∷ FuncProto 0 (param "y" 241 ∷ [])
    ∷ FuncProto 0 (param "y" 242 ∷ []) ∷ FuncProto 0 (param "y" 243 ∷ []) ∷ FuncProto 0 (param "y" 244 ∷ []) ∷ FuncProto 0 (param "y" 245 ∷ [])
    ∷ FuncProto 0 (param "y" 246 ∷ []) ∷ FuncProto 0 (param "y" 247 ∷ []) ∷ FuncProto 0 (param "y" 248 ∷ []) ∷ FuncProto 0 (param "y" 249 ∷ [])
    ∷ FuncProto 0 (param "y" 250 ∷ []) ∷ FuncProto 0 (param "y" 251 ∷ []) ∷ FuncProto 0 (param "y" 252 ∷ []) ∷ FuncProto 0 (param "y" 253 ∷ [])
    ∷ FuncProto 0 (param "y" 254 ∷ []) ∷ FuncProto 0 (param "y" 255 ∷ []) ∷ FuncProto 0 (param "y" 256 ∷ []) ∷ FuncProto 0 (param "y" 257 ∷ [])
    ∷ FuncProto 0 (param "y" 258 ∷ []) ∷ FuncProto 0 (param "y" 259 ∷ []) ∷ Int (ascii "x") 8 ∷ [])
    (all 1816 ∷ [])
    ((12, 0) ∷ [])
    ""
    ∷ []
