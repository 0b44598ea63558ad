mod FirstRefuted
