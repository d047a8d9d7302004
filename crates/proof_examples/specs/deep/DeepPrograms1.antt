-- Written by tools/vectors.py. Sections of crates/btfdump_replay/data at the limits of depth, each beside what the program prints.
-- That they are equal is `deep_programs1_hold` of proofs/DeepPrograms1.
use Rattle.std.specs.Prelude.{false, List, [], ◌∷◌}
use Rattle.spec_bytes.specs.text.Text.{ascii}
use Rattle.spec_c_dumper.specs.rules.Listed.{listed}
use Rattle.spec_c_dumper.specs.rules.Samples.{Sample, gives}
use Rattle.spec_c_dumper.specs.needs.Session.{program}
use Rattle.spec_c_dumper.specs.rules.Types.{Void, Int, Ptr, Typedef}

abbrev pub deep_programs1 : List Sample
deep_programs1 =
    gives  -- pointer-chain-511
    (program (listed 8 false
    (Void ∷ Int (ascii "int") 32 ∷ Ptr 1 ∷ Ptr 2 ∷ Ptr 3 ∷ Ptr 4 ∷ Ptr 5 ∷ Ptr 6 ∷ Ptr 7 ∷ Ptr 8 ∷ Ptr 9 ∷ Ptr 10 ∷ Ptr 11 ∷ Ptr 12 ∷ Ptr 13 ∷ Ptr 14
    ∷ Ptr 15 ∷ Ptr 16 ∷ Ptr 17 ∷ Ptr 18 ∷ Ptr 19 ∷ Ptr 20 ∷ Ptr 21 ∷ Ptr 22 ∷ Ptr 23 ∷ Ptr 24 ∷ Ptr 25 ∷ Ptr 26 ∷ Ptr 27 ∷ Ptr 28 ∷ Ptr 29 ∷ Ptr 30
    ∷ Ptr 31 ∷ Ptr 32 ∷ Ptr 33 ∷ Ptr 34 ∷ Ptr 35 ∷ Ptr 36 ∷ Ptr 37 ∷ Ptr 38 ∷ Ptr 39 ∷ Ptr 40 ∷ Ptr 41 ∷ Ptr 42 ∷ Ptr 43 ∷ Ptr 44 ∷ Ptr 45 ∷ Ptr 46
    ∷ Ptr 47 ∷ Ptr 48 ∷ Ptr 49 ∷ Ptr 50 ∷ Ptr 51 ∷ Ptr 52 ∷ Ptr 53 ∷ Ptr 54 ∷ Ptr 55 ∷ Ptr 56 ∷ Ptr 57 ∷ Ptr 58 ∷ Ptr 59 ∷ Ptr 60 ∷ Ptr 61 ∷ Ptr 62
    ∷ Ptr 63 ∷ Ptr 64 ∷ Ptr 65 ∷ Ptr 66 ∷ Ptr 67 ∷ Ptr 68 ∷ Ptr 69 ∷ Ptr 70 ∷ Ptr 71 ∷ Ptr 72 ∷ Ptr 73 ∷ Ptr 74 ∷ Ptr 75 ∷ Ptr 76 ∷ Ptr 77 ∷ Ptr 78
    ∷ Ptr 79 ∷ Ptr 80 ∷ Ptr 81 ∷ Ptr 82 ∷ Ptr 83 ∷ Ptr 84 ∷ Ptr 85 ∷ Ptr 86 ∷ Ptr 87 ∷ Ptr 88 ∷ Ptr 89 ∷ Ptr 90 ∷ Ptr 91 ∷ Ptr 92 ∷ Ptr 93 ∷ Ptr 94
    ∷ Ptr 95 ∷ Ptr 96 ∷ Ptr 97 ∷ Ptr 98 ∷ Ptr 99 ∷ Ptr 100 ∷ Ptr 101 ∷ Ptr 102 ∷ Ptr 103 ∷ Ptr 104 ∷ Ptr 105 ∷ Ptr 106 ∷ Ptr 107 ∷ Ptr 108 ∷ Ptr 109
    ∷ Ptr 110 ∷ Ptr 111 ∷ Ptr 112 ∷ Ptr 113 ∷ Ptr 114 ∷ Ptr 115 ∷ Ptr 116 ∷ Ptr 117 ∷ Ptr 118 ∷ Ptr 119 ∷ Ptr 120 ∷ Ptr 121 ∷ Ptr 122 ∷ Ptr 123
    ∷ Ptr 124 ∷ Ptr 125 ∷ Ptr 126 ∷ Ptr 127 ∷ Ptr 128 ∷ Ptr 129 ∷ Ptr 130 ∷ Ptr 131 ∷ Ptr 132 ∷ Ptr 133 ∷ Ptr 134 ∷ Ptr 135 ∷ Ptr 136 ∷ Ptr 137
    ∷ Ptr 138 ∷ Ptr 139 ∷ Ptr 140 ∷ Ptr 141 ∷ Ptr 142 ∷ Ptr 143 ∷ Ptr 144 ∷ Ptr 145 ∷ Ptr 146 ∷ Ptr 147 ∷ Ptr 148 ∷ Ptr 149 ∷ Ptr 150 ∷ Ptr 151
    ∷ Ptr 152 ∷ Ptr 153 ∷ Ptr 154 ∷ Ptr 155 ∷ Ptr 156 ∷ Ptr 157 ∷ Ptr 158 ∷ Ptr 159 ∷ Ptr 160 ∷ Ptr 161 ∷ Ptr 162 ∷ Ptr 163 ∷ Ptr 164 ∷ Ptr 165
    ∷ Ptr 166 ∷ Ptr 167 ∷ Ptr 168 ∷ Ptr 169 ∷ Ptr 170 ∷ Ptr 171 ∷ Ptr 172 ∷ Ptr 173 ∷ Ptr 174 ∷ Ptr 175 ∷ Ptr 176 ∷ Ptr 177 ∷ Ptr 178 ∷ Ptr 179
    ∷ Ptr 180 ∷ Ptr 181 ∷ Ptr 182 ∷ Ptr 183 ∷ Ptr 184 ∷ Ptr 185 ∷ Ptr 186 ∷ Ptr 187 ∷ Ptr 188 ∷ Ptr 189 ∷ Ptr 190 ∷ Ptr 191 ∷ Ptr 192 ∷ Ptr 193
    ∷ Ptr 194 ∷ Ptr 195 ∷ Ptr 196 ∷ Ptr 197 ∷ Ptr 198 ∷ Ptr 199 ∷ Ptr 200 ∷ Ptr 201 ∷ Ptr 202 ∷ Ptr 203 ∷ Ptr 204 ∷ Ptr 205 ∷ Ptr 206 ∷ Ptr 207
    ∷ Ptr 208 ∷ Ptr 209 ∷ Ptr 210 ∷ Ptr 211 ∷ Ptr 212 ∷ Ptr 213 ∷ Ptr 214 ∷ Ptr 215 ∷ Ptr 216 ∷ Ptr 217 ∷ Ptr 218 ∷ Ptr 219 ∷ Ptr 220 ∷ Ptr 221
    ∷ Ptr 222 ∷ Ptr 223 ∷ Ptr 224 ∷ Ptr 225 ∷ Ptr 226 ∷ Ptr 227 ∷ Ptr 228 ∷ Ptr 229 ∷ Ptr 230 ∷ Ptr 231 ∷ Ptr 232 ∷ Ptr 233 ∷ Ptr 234 ∷ Ptr 235
    ∷ Ptr 236 ∷ Ptr 237 ∷ Ptr 238 ∷ Ptr 239 ∷ Ptr 240 ∷ Ptr 241 ∷ Ptr 242 ∷ Ptr 243 ∷ Ptr 244 ∷ Ptr 245 ∷ Ptr 246 ∷ Ptr 247 ∷ Ptr 248 ∷ Ptr 249
    ∷ Ptr 250 ∷ Ptr 251 ∷ Ptr 252 ∷ Ptr 253 ∷ Ptr 254 ∷ Ptr 255 ∷ Ptr 256 ∷ Ptr 257 ∷ Ptr 258 ∷ Ptr 259 ∷ Ptr 260 ∷ Ptr 261 ∷ Ptr 262 ∷ Ptr 263
    ∷ Ptr 264 ∷ Ptr 265 ∷ Ptr 266 ∷ Ptr 267 ∷ Ptr 268 ∷ Ptr 269 ∷ Ptr 270 ∷ Ptr 271 ∷ Ptr 272 ∷ Ptr 273 ∷ Ptr 274 ∷ Ptr 275 ∷ Ptr 276 ∷ Ptr 277
    ∷ Ptr 278 ∷ Ptr 279 ∷ Ptr 280 ∷ Ptr 281 ∷ Ptr 282 ∷ Ptr 283 ∷ Ptr 284 ∷ Ptr 285 ∷ Ptr 286 ∷ Ptr 287 ∷ Ptr 288 ∷ Ptr 289 ∷ Ptr 290 ∷ Ptr 291
    ∷ Ptr 292 ∷ Ptr 293 ∷ Ptr 294 ∷ Ptr 295 ∷ Ptr 296 ∷ Ptr 297 ∷ Ptr 298 ∷ Ptr 299 ∷ Ptr 300 ∷ Ptr 301 ∷ Ptr 302 ∷ Ptr 303 ∷ Ptr 304 ∷ Ptr 305
    ∷ Ptr 306 ∷ Ptr 307 ∷ Ptr 308 ∷ Ptr 309 ∷ Ptr 310 ∷ Ptr 311 ∷ Ptr 312 ∷ Ptr 313 ∷ Ptr 314 ∷ Ptr 315 ∷ Ptr 316 ∷ Ptr 317 ∷ Ptr 318 ∷ Ptr 319
    ∷ Ptr 320 ∷ Ptr 321 ∷ Ptr 322 ∷ Ptr 323 ∷ Ptr 324 ∷ Ptr 325 ∷ Ptr 326 ∷ Ptr 327 ∷ Ptr 328 ∷ Ptr 329 ∷ Ptr 330 ∷ Ptr 331 ∷ Ptr 332 ∷ Ptr 333
    ∷ Ptr 334 ∷ Ptr 335 ∷ Ptr 336 ∷ Ptr 337 ∷ Ptr 338 ∷ Ptr 339 ∷ Ptr 340 ∷ Ptr 341 ∷ Ptr 342 ∷ Ptr 343 ∷ Ptr 344 ∷ Ptr 345 ∷ Ptr 346 ∷ Ptr 347
    ∷ Ptr 348 ∷ Ptr 349 ∷ Ptr 350 ∷ Ptr 351 ∷ Ptr 352 ∷ Ptr 353 ∷ Ptr 354 ∷ Ptr 355 ∷ Ptr 356 ∷ Ptr 357 ∷ Ptr 358 ∷ Ptr 359 ∷ Ptr 360 ∷ Ptr 361
    ∷ Ptr 362 ∷ Ptr 363 ∷ Ptr 364 ∷ Ptr 365 ∷ Ptr 366 ∷ Ptr 367 ∷ Ptr 368 ∷ Ptr 369 ∷ Ptr 370 ∷ Ptr 371 ∷ Ptr 372 ∷ Ptr 373 ∷ Ptr 374 ∷ Ptr 375
    ∷ Ptr 376 ∷ Ptr 377 ∷ Ptr 378 ∷ Ptr 379 ∷ Ptr 380 ∷ Ptr 381 ∷ Ptr 382 ∷ Ptr 383 ∷ Ptr 384 ∷ Ptr 385 ∷ Ptr 386 ∷ Ptr 387 ∷ Ptr 388 ∷ Ptr 389
    ∷ Ptr 390 ∷ Ptr 391 ∷ Ptr 392 ∷ Ptr 393 ∷ Ptr 394 ∷ Ptr 395 ∷ Ptr 396 ∷ Ptr 397 ∷ Ptr 398 ∷ Ptr 399 ∷ Ptr 400 ∷ Ptr 401 ∷ Ptr 402 ∷ Ptr 403
    ∷ Ptr 404 ∷ Ptr 405 ∷ Ptr 406 ∷ Ptr 407 ∷ Ptr 408 ∷ Ptr 409 ∷ Ptr 410 ∷ Ptr 411 ∷ Ptr 412 ∷ Ptr 413 ∷ Ptr 414 ∷ Ptr 415 ∷ Ptr 416 ∷ Ptr 417
    ∷ Ptr 418 ∷ Ptr 419 ∷ Ptr 420 ∷ Ptr 421 ∷ Ptr 422 ∷ Ptr 423 ∷ Ptr 424 ∷ Ptr 425 ∷ Ptr 426 ∷ Ptr 427 ∷ Ptr 428 ∷ Ptr 429 ∷ Ptr 430 ∷ Ptr 431
    ∷ Ptr 432 ∷ Ptr 433 ∷ Ptr 434 ∷ Ptr 435 ∷ Ptr 436 ∷ Ptr 437 ∷ Ptr 438 ∷ Ptr 439 ∷ Ptr 440 ∷ Ptr 441 ∷ Ptr 442 ∷ Ptr 443 ∷ Ptr 444 ∷ Ptr 445
    ∷ Ptr 446 ∷ Ptr 447 ∷ Ptr 448 ∷ Ptr 449 ∷ Ptr 450 ∷ Ptr 451 ∷ Ptr 452 ∷ Ptr 453 ∷ Ptr 454 ∷ Ptr 455 ∷ Ptr 456 ∷ Ptr 457 ∷ Ptr 458 ∷ Ptr 459
    ∷ Ptr 460 ∷ Ptr 461 ∷ Ptr 462 ∷ Ptr 463 ∷ Ptr 464 ∷ Ptr 465 ∷ Ptr 466 ∷ Ptr 467 ∷ Ptr 468 ∷ Ptr 469 ∷ Ptr 470 ∷ Ptr 471 ∷ Ptr 472 ∷ Ptr 473
    ∷ Ptr 474 ∷ Ptr 475 ∷ Ptr 476 ∷ Ptr 477 ∷ Ptr 478 ∷ Ptr 479 ∷ Ptr 480 ∷ Ptr 481 ∷ Ptr 482 ∷ Ptr 483 ∷ Ptr 484 ∷ Ptr 485 ∷ Ptr 486 ∷ Ptr 487
    ∷ Ptr 488 ∷ Ptr 489 ∷ Ptr 490 ∷ Ptr 491 ∷ Ptr 492 ∷ Ptr 493 ∷ Ptr 494 ∷ Ptr 495 ∷ Ptr 496 ∷ Ptr 497 ∷ Ptr 498 ∷ Ptr 499 ∷ Ptr 500 ∷ Ptr 501
    ∷ Ptr 502 ∷ Ptr 503 ∷ Ptr 504 ∷ Ptr 505 ∷ Ptr 506 ∷ Ptr 507 ∷ Ptr 508 ∷ Ptr 509 ∷ Ptr 510 ∷ Typedef (ascii "T") 511 ∷ [])))
    "typedef int ******************************************************************************************************************************************************************************************************************************************************************************************************************************************************************************************************************************************************************************************************************************T;\n\n"
    ∷ gives  -- pointer-chain-512
    (program (listed 8 false
    (Void ∷ Int (ascii "int") 32 ∷ Ptr 1 ∷ Ptr 2 ∷ Ptr 3 ∷ Ptr 4 ∷ Ptr 5 ∷ Ptr 6 ∷ Ptr 7 ∷ Ptr 8 ∷ Ptr 9 ∷ Ptr 10 ∷ Ptr 11 ∷ Ptr 12 ∷ Ptr 13 ∷ Ptr 14
    ∷ Ptr 15 ∷ Ptr 16 ∷ Ptr 17 ∷ Ptr 18 ∷ Ptr 19 ∷ Ptr 20 ∷ Ptr 21 ∷ Ptr 22 ∷ Ptr 23 ∷ Ptr 24 ∷ Ptr 25 ∷ Ptr 26 ∷ Ptr 27 ∷ Ptr 28 ∷ Ptr 29 ∷ Ptr 30
    ∷ Ptr 31 ∷ Ptr 32 ∷ Ptr 33 ∷ Ptr 34 ∷ Ptr 35 ∷ Ptr 36 ∷ Ptr 37 ∷ Ptr 38 ∷ Ptr 39 ∷ Ptr 40 ∷ Ptr 41 ∷ Ptr 42 ∷ Ptr 43 ∷ Ptr 44 ∷ Ptr 45 ∷ Ptr 46
    ∷ Ptr 47 ∷ Ptr 48 ∷ Ptr 49 ∷ Ptr 50 ∷ Ptr 51 ∷ Ptr 52 ∷ Ptr 53 ∷ Ptr 54 ∷ Ptr 55 ∷ Ptr 56 ∷ Ptr 57 ∷ Ptr 58 ∷ Ptr 59 ∷ Ptr 60 ∷ Ptr 61 ∷ Ptr 62
    ∷ Ptr 63 ∷ Ptr 64 ∷ Ptr 65 ∷ Ptr 66 ∷ Ptr 67 ∷ Ptr 68 ∷ Ptr 69 ∷ Ptr 70 ∷ Ptr 71 ∷ Ptr 72 ∷ Ptr 73 ∷ Ptr 74 ∷ Ptr 75 ∷ Ptr 76 ∷ Ptr 77 ∷ Ptr 78
    ∷ Ptr 79 ∷ Ptr 80 ∷ Ptr 81 ∷ Ptr 82 ∷ Ptr 83 ∷ Ptr 84 ∷ Ptr 85 ∷ Ptr 86 ∷ Ptr 87 ∷ Ptr 88 ∷ Ptr 89 ∷ Ptr 90 ∷ Ptr 91 ∷ Ptr 92 ∷ Ptr 93 ∷ Ptr 94
    ∷ Ptr 95 ∷ Ptr 96 ∷ Ptr 97 ∷ Ptr 98 ∷ Ptr 99 ∷ Ptr 100 ∷ Ptr 101 ∷ Ptr 102 ∷ Ptr 103 ∷ Ptr 104 ∷ Ptr 105 ∷ Ptr 106 ∷ Ptr 107 ∷ Ptr 108 ∷ Ptr 109
    ∷ Ptr 110 ∷ Ptr 111 ∷ Ptr 112 ∷ Ptr 113 ∷ Ptr 114 ∷ Ptr 115 ∷ Ptr 116 ∷ Ptr 117 ∷ Ptr 118 ∷ Ptr 119 ∷ Ptr 120 ∷ Ptr 121 ∷ Ptr 122 ∷ Ptr 123
    ∷ Ptr 124 ∷ Ptr 125 ∷ Ptr 126 ∷ Ptr 127 ∷ Ptr 128 ∷ Ptr 129 ∷ Ptr 130 ∷ Ptr 131 ∷ Ptr 132 ∷ Ptr 133 ∷ Ptr 134 ∷ Ptr 135 ∷ Ptr 136 ∷ Ptr 137
    ∷ Ptr 138 ∷ Ptr 139 ∷ Ptr 140 ∷ Ptr 141 ∷ Ptr 142 ∷ Ptr 143 ∷ Ptr 144 ∷ Ptr 145 ∷ Ptr 146 ∷ Ptr 147 ∷ Ptr 148 ∷ Ptr 149 ∷ Ptr 150 ∷ Ptr 151
    ∷ Ptr 152 ∷ Ptr 153 ∷ Ptr 154 ∷ Ptr 155 ∷ Ptr 156 ∷ Ptr 157 ∷ Ptr 158 ∷ Ptr 159 ∷ Ptr 160 ∷ Ptr 161 ∷ Ptr 162 ∷ Ptr 163 ∷ Ptr 164 ∷ Ptr 165
    ∷ Ptr 166 ∷ Ptr 167 ∷ Ptr 168 ∷ Ptr 169 ∷ Ptr 170 ∷ Ptr 171 ∷ Ptr 172 ∷ Ptr 173 ∷ Ptr 174 ∷ Ptr 175 ∷ Ptr 176 ∷ Ptr 177 ∷ Ptr 178 ∷ Ptr 179
    ∷ Ptr 180 ∷ Ptr 181 ∷ Ptr 182 ∷ Ptr 183 ∷ Ptr 184 ∷ Ptr 185 ∷ Ptr 186 ∷ Ptr 187 ∷ Ptr 188 ∷ Ptr 189 ∷ Ptr 190 ∷ Ptr 191 ∷ Ptr 192 ∷ Ptr 193
    ∷ Ptr 194 ∷ Ptr 195 ∷ Ptr 196 ∷ Ptr 197 ∷ Ptr 198 ∷ Ptr 199 ∷ Ptr 200 ∷ Ptr 201 ∷ Ptr 202 ∷ Ptr 203 ∷ Ptr 204 ∷ Ptr 205 ∷ Ptr 206 ∷ Ptr 207
    ∷ Ptr 208 ∷ Ptr 209 ∷ Ptr 210 ∷ Ptr 211 ∷ Ptr 212 ∷ Ptr 213 ∷ Ptr 214 ∷ Ptr 215 ∷ Ptr 216 ∷ Ptr 217 ∷ Ptr 218 ∷ Ptr 219 ∷ Ptr 220 ∷ Ptr 221
    ∷ Ptr 222 ∷ Ptr 223 ∷ Ptr 224 ∷ Ptr 225 ∷ Ptr 226 ∷ Ptr 227 ∷ Ptr 228 ∷ Ptr 229 ∷ Ptr 230 ∷ Ptr 231 ∷ Ptr 232 ∷ Ptr 233 ∷ Ptr 234 ∷ Ptr 235
    ∷ Ptr 236 ∷ Ptr 237 ∷ Ptr 238 ∷ Ptr 239 ∷ Ptr 240 ∷ Ptr 241 ∷ Ptr 242 ∷ Ptr 243 ∷ Ptr 244 ∷ Ptr 245 ∷ Ptr 246 ∷ Ptr 247 ∷ Ptr 248 ∷ Ptr 249
    ∷ Ptr 250 ∷ Ptr 251 ∷ Ptr 252 ∷ Ptr 253 ∷ Ptr 254 ∷ Ptr 255 ∷ Ptr 256 ∷ Ptr 257 ∷ Ptr 258 ∷ Ptr 259 ∷ Ptr 260 ∷ Ptr 261 ∷ Ptr 262 ∷ Ptr 263
    ∷ Ptr 264 ∷ Ptr 265 ∷ Ptr 266 ∷ Ptr 267 ∷ Ptr 268 ∷ Ptr 269 ∷ Ptr 270 ∷ Ptr 271 ∷ Ptr 272 ∷ Ptr 273 ∷ Ptr 274 ∷ Ptr 275 ∷ Ptr 276 ∷ Ptr 277
    ∷ Ptr 278 ∷ Ptr 279 ∷ Ptr 280 ∷ Ptr 281 ∷ Ptr 282 ∷ Ptr 283 ∷ Ptr 284 ∷ Ptr 285 ∷ Ptr 286 ∷ Ptr 287 ∷ Ptr 288 ∷ Ptr 289 ∷ Ptr 290 ∷ Ptr 291
    ∷ Ptr 292 ∷ Ptr 293 ∷ Ptr 294 ∷ Ptr 295 ∷ Ptr 296 ∷ Ptr 297 ∷ Ptr 298 ∷ Ptr 299 ∷ Ptr 300 ∷ Ptr 301 ∷ Ptr 302 ∷ Ptr 303 ∷ Ptr 304 ∷ Ptr 305
    ∷ Ptr 306 ∷ Ptr 307 ∷ Ptr 308 ∷ Ptr 309 ∷ Ptr 310 ∷ Ptr 311 ∷ Ptr 312 ∷ Ptr 313 ∷ Ptr 314 ∷ Ptr 315 ∷ Ptr 316 ∷ Ptr 317 ∷ Ptr 318 ∷ Ptr 319
    ∷ Ptr 320 ∷ Ptr 321 ∷ Ptr 322 ∷ Ptr 323 ∷ Ptr 324 ∷ Ptr 325 ∷ Ptr 326 ∷ Ptr 327 ∷ Ptr 328 ∷ Ptr 329 ∷ Ptr 330 ∷ Ptr 331 ∷ Ptr 332 ∷ Ptr 333
    ∷ Ptr 334 ∷ Ptr 335 ∷ Ptr 336 ∷ Ptr 337 ∷ Ptr 338 ∷ Ptr 339 ∷ Ptr 340 ∷ Ptr 341 ∷ Ptr 342 ∷ Ptr 343 ∷ Ptr 344 ∷ Ptr 345 ∷ Ptr 346 ∷ Ptr 347
    ∷ Ptr 348 ∷ Ptr 349 ∷ Ptr 350 ∷ Ptr 351 ∷ Ptr 352 ∷ Ptr 353 ∷ Ptr 354 ∷ Ptr 355 ∷ Ptr 356 ∷ Ptr 357 ∷ Ptr 358 ∷ Ptr 359 ∷ Ptr 360 ∷ Ptr 361
    ∷ Ptr 362 ∷ Ptr 363 ∷ Ptr 364 ∷ Ptr 365 ∷ Ptr 366 ∷ Ptr 367 ∷ Ptr 368 ∷ Ptr 369 ∷ Ptr 370 ∷ Ptr 371 ∷ Ptr 372 ∷ Ptr 373 ∷ Ptr 374 ∷ Ptr 375
    ∷ Ptr 376 ∷ Ptr 377 ∷ Ptr 378 ∷ Ptr 379 ∷ Ptr 380 ∷ Ptr 381 ∷ Ptr 382 ∷ Ptr 383 ∷ Ptr 384 ∷ Ptr 385 ∷ Ptr 386 ∷ Ptr 387 ∷ Ptr 388 ∷ Ptr 389
    ∷ Ptr 390 ∷ Ptr 391 ∷ Ptr 392 ∷ Ptr 393 ∷ Ptr 394 ∷ Ptr 395 ∷ Ptr 396 ∷ Ptr 397 ∷ Ptr 398 ∷ Ptr 399 ∷ Ptr 400 ∷ Ptr 401 ∷ Ptr 402 ∷ Ptr 403
    ∷ Ptr 404 ∷ Ptr 405 ∷ Ptr 406 ∷ Ptr 407 ∷ Ptr 408 ∷ Ptr 409 ∷ Ptr 410 ∷ Ptr 411 ∷ Ptr 412 ∷ Ptr 413 ∷ Ptr 414 ∷ Ptr 415 ∷ Ptr 416 ∷ Ptr 417
    ∷ Ptr 418 ∷ Ptr 419 ∷ Ptr 420 ∷ Ptr 421 ∷ Ptr 422 ∷ Ptr 423 ∷ Ptr 424 ∷ Ptr 425 ∷ Ptr 426 ∷ Ptr 427 ∷ Ptr 428 ∷ Ptr 429 ∷ Ptr 430 ∷ Ptr 431
    ∷ Ptr 432 ∷ Ptr 433 ∷ Ptr 434 ∷ Ptr 435 ∷ Ptr 436 ∷ Ptr 437 ∷ Ptr 438 ∷ Ptr 439 ∷ Ptr 440 ∷ Ptr 441 ∷ Ptr 442 ∷ Ptr 443 ∷ Ptr 444 ∷ Ptr 445
    ∷ Ptr 446 ∷ Ptr 447 ∷ Ptr 448 ∷ Ptr 449 ∷ Ptr 450 ∷ Ptr 451 ∷ Ptr 452 ∷ Ptr 453 ∷ Ptr 454 ∷ Ptr 455 ∷ Ptr 456 ∷ Ptr 457 ∷ Ptr 458 ∷ Ptr 459
    ∷ Ptr 460 ∷ Ptr 461 ∷ Ptr 462 ∷ Ptr 463 ∷ Ptr 464 ∷ Ptr 465 ∷ Ptr 466 ∷ Ptr 467 ∷ Ptr 468 ∷ Ptr 469 ∷ Ptr 470 ∷ Ptr 471 ∷ Ptr 472 ∷ Ptr 473
    ∷ Ptr 474 ∷ Ptr 475 ∷ Ptr 476 ∷ Ptr 477 ∷ Ptr 478 ∷ Ptr 479 ∷ Ptr 480 ∷ Ptr 481 ∷ Ptr 482 ∷ Ptr 483 ∷ Ptr 484 ∷ Ptr 485 ∷ Ptr 486 ∷ Ptr 487
    ∷ Ptr 488 ∷ Ptr 489 ∷ Ptr 490 ∷ Ptr 491 ∷ Ptr 492 ∷ Ptr 493 ∷ Ptr 494 ∷ Ptr 495 ∷ Ptr 496 ∷ Ptr 497 ∷ Ptr 498 ∷ Ptr 499 ∷ Ptr 500 ∷ Ptr 501
    ∷ Ptr 502 ∷ Ptr 503 ∷ Ptr 504 ∷ Ptr 505 ∷ Ptr 506 ∷ Ptr 507 ∷ Ptr 508 ∷ Ptr 509 ∷ Ptr 510 ∷ Ptr 511 ∷ Typedef (ascii "T") 512 ∷ [])))
    "refused 12\n"
    ∷ []
